-- The line of an entry without rules.
use Rattle.std.proofs.Common.{◌≡◌, ◌++◌, ◌<◌, ℕ, List, [], ◌∷◌, length, ap, sym, append_assoc, arith}
use Rattle.std.specs.Prelude.{codes}
use Rattle.std.specs.Fmt.{decimal}
use Rattle.profile.specs.declared.rules.Rule.{Rule}
use Rattle.show.specs.Read.{entry_text}

-- what is written of a list that is shorter than one
pub no_rules : (text : List ℕ) (entry : ℕ) (rules : List Rule) → length rules < 1
    → text ++ (codes "entry " ++ (decimal entry ++ codes " names no call of these machines\n")) ≡ text ++ entry_text entry rules
no_rules text entry [] is =
    ap (λ (l : List ℕ). text ++ (codes "entry " ++ l)) (sym (append_assoc (decimal entry) (codes " names no call of these machines") (codes "\n")))
no_rules text entry (rule ∷ rules) is = absurd (omega (arith, is))
