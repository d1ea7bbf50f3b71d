-- The list of commands, line by line, and the page of a name.
use Rattle.std.proofs.Common.{◌≡◌, ◌∙◌, ◌<◌, ◌+◌, ℕ, List, [], ◌∷◌, ◌++◌, ap, append-nil, get_or, length, map, sym, subst, take, Option, Some, None, option_map}
use Rattle.std.specs.Prelude.{find}
use Rattle.std.specs.Str.{bytes_eq}
use Rattle.std.proofs.lemmas.List.{map-append, take_more}
use Rattle.std.proofs.lemmas.Grind.{flat_map-append}
use Rattle.std.specs.Borrow.{Bor}
use Rattle.clap.proofs.WalkLemmas.{find-map}
use Rattle.command_line.specs.Lines.{row_called}
use Rattle.command_line.specs.Manual.{IsPage, line_of, list_of}
use Rattle.command_line.specs.Prose.{prose_text}
use Rattle.command_line.specs.Table.{Row, Text, row, rows}
use Rattle.command_line.proofs.Grammars.{Lent}

-- one more line
pub lines_more : (entries : List Lent) (i : ℕ) (d : Lent) (old new : Text) → i < length entries → old ≡ list_of (map row (take i entries))
    → new ≡ old ++ line_of (row (get_or entries i d)) → new ≡ list_of (map row (take (i + 1) entries))
lines_more entries i d old new lt before more =
    let last = row (get_or entries i d) in
    more ∙ ap (λ (t : Text). t ++ line_of last) before
    ∙ ap (λ (t : Text). list_of (map row (take i entries)) ++ t) (sym (append-nil (line_of last)))
    ∙ sym (ap (λ (es : List Lent). list_of (map row es)) (take_more entries i d lt)
    ∙ ap list_of (map-append row (take i entries) (get_or entries i d ∷ []))
    ∙ flat_map-append line_of (map row (take i entries)) (last ∷ []))

-- the command of a name, as a row of the manual
module _ (entries : List Lent) (found : Option Lent) (command : Option (Bor Text)) (told_name : Bor Text) (name : Text) (same : map row entries ≡ rows)
    (is : found ≡ find (λ (entry : Lent). bytes_eq entry.0.now told_name.now) entries) (asked : command ≡ Some told_name)
    (named : option_map (λ (n : Bor Text). n.now) command ≡ Some name) where
  name_is : told_name.now ≡ name
  name_is = let e : Some told_name.now ≡ Some name = sym (ap (option_map (λ (n : Bor Text). n.now)) asked) ∙ named in cc

  row_is : row_called name rows ≡ option_map row found
  row_is =
      ap (λ (n : Text). row_called n rows) (sym name_is) ∙ sym (ap (row_called told_name.now) same)
      ∙ sym (find-map (λ (r : Row). bytes_eq r.name told_name.now) row entries) ∙ ap (option_map row) (sym is)

  pub page_is : (entry : Lent) (told : Text) → found ≡ Some entry → (head : Text) × (told ≡ head ++ prose_text entry.4)
      → IsPage (row_called name rows) (Some told)
  page_is entry told here page =
      let e : row_called name rows ≡ Some (row entry) = row_is ∙ ap (option_map row) here in
      subst (λ (r : Option Row). IsPage r (Some told)) (sym e) page

  pub no_page : found ≡ None → IsPage (row_called name rows) None
  no_page none =
      let e : row_called name rows ≡ None = row_is ∙ ap (option_map row) none in
      subst (λ (r : Option Row). IsPage r None) (sym e) tt
