-- What an entry of a column tells.
use Rattle.std.proofs.Common.{◌≡◌, ℕ, ◌==◌, true, false, List, ◌∷◌, Option, Some, None, is_some, refl, sym, ap, ◌∙◌}
use Rattle.std.proofs.lemmas.Bool.Decides.{Decides-eqb}
use Rattle.std.proofs.lemmas.Bool.{cases_Bool}
use Rattle.std.proofs.Common.{inl, inr}
use Rattle.std.specs.Prelude.{[], ◌++◌}
use Rattle.std.specs.Option.{option_and_then, option_copied}
use Rattle.std.specs.Str.{bytes_eq}
use denote.Ref.{Bor}
use Rattle.call_tables.specs.Table.{Table, name_in, number_in}
use Rattle.call_tables.specs.Rows.{Rows, number_at, row_in, column_of}
use Rattle.call_tables.specs.inner.Order.{Ascends}
use Rattle.call_tables.specs.inner.OrderLaws.{in_column}

numbered : (n : List ℕ) (own : ℕ) (t : Table) (nr : ℕ) → (own == nr) ≡ true → name_in ((n, own) ∷ t) nr ≡ Some n
numbered n own t nr h = rw h refl

unnumbered : (n : List ℕ) (own : ℕ) (t : Table) (nr : ℕ) → (own == nr) ≡ false → name_in ((n, own) ∷ t) nr ≡ name_in t nr
unnumbered n own t nr h = rw h refl

-- the entry of a row that has the number
pub here : (column : ℕ) (e : List ℕ × List ℕ) (es : Rows) (nr : ℕ) → number_at column e.1 ≡ Some nr
    → name_in (column_of column (e ∷ es)) nr ≡ Some e.0
here column e es nr is =
    let opens : column_of column (e ∷ es) ≡ (e.0, nr) ∷ column_of column es = rw is refl in
    ap (λ t. name_in t nr) opens ∙ numbered e.0 nr (column_of column es) nr ((Decides-eqb nr nr).1 refl)

past_by : (column : ℕ) (e : List ℕ × List ℕ) (es : Rows) (nr : ℕ) (o : Option ℕ) → number_at column e.1 ≡ o → ¬ (o ≡ Some nr)
    → name_in (column_of column (e ∷ es)) nr ≡ name_in (column_of column es) nr
past_by column e es nr None is other =
    let skips : column_of column (e ∷ es) ≡ column_of column es = rw is refl in
    ap (λ t. name_in t nr) skips
past_by column e es nr (Some own) is other =
    let opens : column_of column (e ∷ es) ≡ (e.0, own) ∷ column_of column es = rw is refl in
    elim (cases_Bool (own == nr)) [
      | inl same ↦ absurd (other (ap Some ((Decides-eqb own nr).0 same)))
      | inr unlike ↦ ap (λ t. name_in t nr) opens ∙ unnumbered e.0 own (column_of column es) nr unlike
    ]

-- the entry of one that has not
pub past : (column : ℕ) (e : List ℕ × List ℕ) (es : Rows) (nr : ℕ) → ¬ (number_at column e.1 ≡ Some nr)
    → name_in (column_of column (e ∷ es)) nr ≡ name_in (column_of column es) nr
past column e es nr other = past_by column e es nr (number_at column e.1) refl other

-- what a column tells of a name, by the name's row
pub told : (column : ℕ) (t : Rows) (name : List ℕ) (row : List ℕ) → Ascends t → row_in t name ≡ Some row
    → number_at column row ≡ number_in (column_of column t) name
told column t name row up is = sym (in_column column t name up ∙ ap (option_and_then (number_at column)) is)

pub untold : (column : ℕ) (t : Rows) (name : List ℕ) → Ascends t → row_in t name ≡ None → None ≡ number_in (column_of column t) name
untold column t name up is = sym (in_column column t name up ∙ ap (option_and_then (number_at column)) is)

-- ---- parts of rows

abbrev or_else : {A : Type 0} → Option A → Option A → Option A
or_else None other = other
or_else (Some x) other = Some x

parts_by : (column : ℕ) (e : List ℕ × List ℕ) (xs ys : Rows) (o : Option ℕ) → number_at column e.1 ≡ o
    → column_of column (xs ++ ys) ≡ column_of column xs ++ column_of column ys
    → column_of column (e ∷ (xs ++ ys)) ≡ column_of column (e ∷ xs) ++ column_of column ys
parts_by column e xs ys None is rest = rw is rest
parts_by column e xs ys (Some nr) is rest = rw is (ap (λ t. (e.0, nr) ∷ t) rest)

column_parts : (column : ℕ) (xs ys : Rows) → column_of column (xs ++ ys) ≡ column_of column xs ++ column_of column ys
column_parts column [] ys = refl
column_parts column (e ∷ xs) ys = parts_by column e xs ys (number_at column e.1) refl (column_parts column xs ys)

numbers_apart : (s t : Table) (name : List ℕ) → number_in (s ++ t) name ≡ or_else (number_in s name) (number_in t name)
numbers_apart [] t name = refl
numbers_apart (e ∷ s) t name =
    elim (cases_Bool (bytes_eq e.0 name)) [ inl here ↦ rw here refl | inr past ↦ rw past (numbers_apart s t name) ]

names_apart : (s t : Table) (nr : ℕ) → name_in (s ++ t) nr ≡ or_else (name_in s nr) (name_in t nr)
names_apart [] t nr = refl
names_apart (e ∷ s) t nr =
    elim (cases_Bool (e.1 == nr)) [ inl here ↦ rw here refl | inr past ↦ rw past (names_apart s t nr) ]

number_apart : (column : ℕ) (xs ys : Rows) (name : List ℕ)
    → number_in (column_of column (xs ++ ys)) name ≡ or_else (number_in (column_of column xs) name) (number_in (column_of column ys) name)
number_apart column xs ys name =
    ap (λ t. number_in t name) (column_parts column xs ys) ∙ numbers_apart (column_of column xs) (column_of column ys) name

name_apart : (column : ℕ) (xs ys : Rows) (nr : ℕ)
    → name_in (column_of column (xs ++ ys)) nr ≡ or_else (name_in (column_of column xs) nr) (name_in (column_of column ys) nr)
name_apart column xs ys nr = ap (λ t. name_in t nr) (column_parts column xs ys) ∙ names_apart (column_of column xs) (column_of column ys) nr

taken : {A : Type 0} (first second : Option A) → is_some first ≡ true → first ≡ or_else first second
taken None second h = cc
taken (Some x) second h = refl

passed_by : {A : Type 0} (first second : Option A) → is_some first ≡ false → second ≡ or_else first second
passed_by None second h = refl
passed_by (Some x) second h = cc

-- what the first part tells, or where it tells nothing, the second
pub number_first : (column : ℕ) (xs ys : Rows) (name : List ℕ) (o : Option ℕ) → o ≡ number_in (column_of column xs) name → is_some o ≡ true
    → o ≡ number_in (column_of column (xs ++ ys)) name
number_first column xs ys name o is some =
    is ∙ taken (number_in (column_of column xs) name) (number_in (column_of column ys) name) (sym (ap is_some is) ∙ some)
    ∙ sym (number_apart column xs ys name)

pub number_second : (column : ℕ) (xs ys : Rows) (name : List ℕ) (o p : Option ℕ) → o ≡ number_in (column_of column xs) name
    → is_some o ≡ false → p ≡ number_in (column_of column ys) name → p ≡ number_in (column_of column (xs ++ ys)) name
number_second column xs ys name o p is missing other =
    other ∙ passed_by (number_in (column_of column xs) name) (number_in (column_of column ys) name) (sym (ap is_some is) ∙ missing)
    ∙ sym (number_apart column xs ys name)

copied : (o : Option (Bor (List ℕ))) → is_some (option_copied o) ≡ is_some o
copied None = refl
copied (Some x) = refl

pub name_first : (column : ℕ) (xs ys : Rows) (nr : ℕ) (o : Option (Bor (List ℕ))) → option_copied o ≡ name_in (column_of column xs) nr
    → is_some o ≡ true → option_copied o ≡ name_in (column_of column (xs ++ ys)) nr
name_first column xs ys nr o is some =
    is ∙ taken (name_in (column_of column xs) nr) (name_in (column_of column ys) nr) (sym (ap is_some is) ∙ copied o ∙ some)
    ∙ sym (name_apart column xs ys nr)

pub name_second : (column : ℕ) (xs ys : Rows) (nr : ℕ) (o p : Option (Bor (List ℕ))) → option_copied o ≡ name_in (column_of column xs) nr
    → is_some o ≡ false → option_copied p ≡ name_in (column_of column ys) nr → option_copied p ≡ name_in (column_of column (xs ++ ys)) nr
name_second column xs ys nr o p is missing other =
    other ∙ passed_by (name_in (column_of column xs) nr) (name_in (column_of column ys) nr) (sym (ap is_some is) ∙ copied o ∙ missing)
    ∙ sym (name_apart column xs ys nr)
