-- The entry of a name in the table.
use Rattle.std.proofs.Common.{◌≡◌, ℕ, Bool, true, false, cond, List, [], ◌∷◌, map, refl, ap, sym, ◌∙◌}
use Rattle.std.specs.Prelude.{find, Option, Some, None}
use Rattle.std.specs.Option.{option_map}
use Rattle.std.specs.Str.{bytes_eq}
use denote.Ref.{Bor}
use Rattle.json_lines.specs.Kinds.{Entry, entry_of, texts_in, texts_of}
use Rattle.json_lines.specs.Lines.{Text}

abbrev Lying : Type 0
Lying = Bor Text × Bor Text × Bor Text

found : (name : Text) (es : List Lying)
    → find (λ (e : Entry). bytes_eq e.0 name) (map entry_of es) ≡ option_map entry_of (find (λ (e : Lying). bytes_eq e.0.now name) es)
found name [] = refl
found name (e ∷ es) = by_test (bytes_eq e.0.now name) (found name es) where
  by_test : (t : Bool)
      → find (λ (e : Entry). bytes_eq e.0 name) (map entry_of es) ≡ option_map entry_of (find (λ (e : Lying). bytes_eq e.0.now name) es)
      → cond {A = Option Entry} t (Some (entry_of e)) (find (λ (e : Entry). bytes_eq e.0 name) (map entry_of es))
      ≡ option_map entry_of (cond {A = Option Lying} t (Some e) (find (λ (e : Lying). bytes_eq e.0.now name) es))
  by_test true ih = refl
  by_test false ih = ih

pub texts_found : (name : Text) (es : List Lying) (entries : List Entry) (o : Option Lying) → map entry_of es ≡ entries
    → o ≡ find (λ (e : Lying). bytes_eq e.0.now name) es → texts_in (option_map entry_of o) ≡ texts_of entries name
texts_found name es entries o t e =
    ap texts_in (ap (option_map entry_of) e ∙ sym (found name es)) ∙ ap (λ ts. texts_of ts name) t
