-- The grammar, as the loop over the table makes it.
use Rattle.std.proofs.Common.{◌≡◌, ◌∙◌, ◌<◌, ◌+◌, ℕ, List, [], ◌∷◌, ap, get_or, length, map, take}
use Rattle.std.proofs.lemmas.List.{map-append, take_more}
use Rattle.std.proofs.lemmas.List.Sums.{fold_push}
use Rattle.std.specs.Borrow.{Bor}
use Rattle.command_line.specs.declared.meanings.Meaning.{Meaning}
use Rattle.command_line.specs.declared.prose.Command.{Command}
use Rattle.command_line.specs.Table.{Text, row}
use Rattle.command_line.specs.inner.Grammar.{grammar_of, top, with_name}

-- a command of the table, with where its texts lie
abbrev pub Lent : Type 0
Lent = Bor Text × (ℕ × ℕ) × Bor (List (Bor Text × Meaning)) × Bor Text × Command

-- one more command
pub entries_more : (entries : List Lent) (i : ℕ) (d : Lent) → i < length entries
    → grammar_of (map row (take (i + 1) entries)) ≡ with_name (grammar_of (map row (take i entries))) (row (get_or entries i d))
entries_more entries i d lt =
    ap (λ es. grammar_of (map row es)) (take_more entries i d lt)
    ∙ ap grammar_of (map-append row (take i entries) (get_or entries i d ∷ []))
    ∙ fold_push with_name top (map row (take i entries)) (row (get_or entries i d))
