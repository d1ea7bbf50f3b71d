-- Arguments beside the parts of a row, and the row of a name.
use Rattle.std.proofs.Common.{◌≡◌, ◌∙◌, ◌<◌, ◌≤◌, ◌-◌, ℕ, zero, suc, min, true, false, refl, sym, ap, arith, List, [], ◌∷◌, drop, get_or, length, map, take, Option, Some, None, option_map}
use Rattle.std.specs.Prelude.{find, option_and_then}
use Rattle.std.proofs.Math.Seq.{take-length}
use Rattle.std.specs.List.{list_any, zip}
use Rattle.std.specs.Str.{bytes_eq}
use Rattle.std.specs.Borrow.{Bor}
use Rattle.clap.proofs.WalkLemmas.{find-map, list_any-map}
use Rattle.command_line.specs.declared.meanings.Meaning.{Meaning}
use Rattle.command_line.specs.Lines.{command_called, command_of, given_by, is_among, row_called, takes, texts}
use Rattle.command_line.specs.Table.{Row, Text, row, rows}
use Rattle.command_line.proofs.Grammars.{Lent}

-- the word is one of those that are named
pub among_is : (words : List (Bor Text)) (named : List Text) (word : Text) → map (λ w. w.now) words ≡ named → (length words ≡ 0 → ⊥)
    → is_among named word ≡ list_any (λ w. bytes_eq w.now word) words
among_is [] named word is some = absurd (some refl)
among_is (first ∷ rest) named word is some =
    ap (λ n. is_among n word) (sym is) ∙ sym (list_any-map (λ w. bytes_eq w word) (λ (w : Bor Text). w.now) (first ∷ rest))

pub none_named : (words : List (Bor Text)) (named : List Text) (word : Text) → map (λ w. w.now) words ≡ named → length words ≡ 0
    → is_among named word ≡ true
none_named [] named word is none = ap (λ n. is_among n word) (sym is)
none_named (first ∷ rest) named word is none = absurd (omega arith)

-- a part, with where its name lies
abbrev pub LentPart : Type 0
LentPart = Bor Text × Meaning

abbrev pub beside : List LentPart → List (Bor Text) → List (Meaning × Text)
beside parts words = zip (map (λ part. part.1) parts) (texts words)

pub beside_at : (parts : List LentPart) (words : List (Bor Text)) (i : ℕ) (part : LentPart) (word : Bor Text) → i < length parts → i < length words
    → get_or (beside parts words) i (part.1, word.now) ≡ ((get_or parts i part).1, (get_or words i word).now)
beside_at [] words i part word lp lw = absurd (omega arith)
beside_at (p ∷ parts) [] i part word lp lw = absurd (omega arith)
beside_at (p ∷ parts) (w ∷ words) zero part word lp lw = refl
beside_at (p ∷ parts) (w ∷ words) (suc i) part word lp lw = beside_at parts words i part word (omega arith) (omega arith)

pub beside_long : (parts : List LentPart) (words : List (Bor Text)) (i : ℕ) → i < length parts → i < length words → i < length (beside parts words)
beside_long [] words i lp lw = absurd (omega arith)
beside_long (p ∷ parts) [] i lp lw = absurd (omega arith)
beside_long (p ∷ parts) (w ∷ words) zero lp lw = omega arith
beside_long (p ∷ parts) (w ∷ words) (suc i) lp lw =
    let more = beside_long parts words i (omega arith) (omega arith) in
    omega (arith, more)

pub beside_length : (parts : List LentPart) (words : List (Bor Text)) → length (beside parts words) ≡ min (length parts) (length words)
beside_length [] words = omega arith
beside_length (p ∷ parts) [] = omega arith
beside_length (p ∷ parts) (w ∷ words) = omega (arith, beside_length parts words)

-- the row of a name is that of the entry that is found
pub row_is : (entries : List Lent) (found : Option Lent) (name : Text) → map row entries ≡ rows
    → found ≡ find (λ (entry : Lent). bytes_eq entry.0.now name) entries → row_called name rows ≡ option_map row found
row_is entries found name same is =
    sym (ap (row_called name) same) ∙ sym (find-map (λ (r : Row). bytes_eq r.name name) row entries) ∙ ap (option_map row) (sym is)

-- what the table has for a name and arguments, by the entry that is found
module _ (entries : List Lent) (found : Option Lent) (name : Text) (words : List Text) (same : map row entries ≡ rows)
    (is : found ≡ find (λ (entry : Lent). bytes_eq entry.0.now name) entries) where
  called_is : (o : Option Lent) → found ≡ o → command_called name words ≡ option_and_then (λ r. given_by r words) (option_map row o)
  called_is o e = ap (option_and_then (λ (r : Row). given_by r words)) (row_is entries found name same is ∙ ap (option_map row) e)

  pub called_none : found ≡ None → command_called name words ≡ None
  called_none e = called_is None e

  pub called_taken : (entry : Lent) → found ≡ Some entry → takes (row entry) words ≡ true → command_called name words ≡ Some (entry.4, words)
  called_taken entry e taken = called_is (Some entry) e ∙ rw taken refl

  pub called_refused : (entry : Lent) → found ≡ Some entry → takes (row entry) words ≡ false → command_called name words ≡ None
  called_refused entry e refused = called_is (Some entry) e ∙ rw refused refl

-- the first argument is the name, and the others stand behind it
pub split_is : (arguments : List (Bor Text)) (d : Bor Text) → 1 ≤ length arguments
    → command_called (get_or arguments 0 d).now (texts (take (length arguments - 1) (drop 1 arguments))) ≡ command_of (texts arguments)
split_is [] d some = absurd (omega arith)
split_is (name ∷ rest) d some =
    let n : length (name ∷ rest) - 1 ≡ length rest = omega arith in
    ap (λ ws. command_called name.now (texts ws)) (ap (λ k. take k rest) n ∙ take-length rest)
