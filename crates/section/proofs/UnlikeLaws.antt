-- What is told of keys and of members that stand in a row.
use Rattle.std.proofs.Common.{◌≡◌, ◌≢◌, ◌==◌, ◌<◌, ◌≤◌, ◌+◌, ◌++◌, ℕ, List, [], ◌∷◌, length, map, drop, get_or, true, false, inl, inr, refl, sym, ◌∙◌, ap, subst, arith}
use Rattle.std.proofs.Common.{append_assoc, cond}
use Rattle.std.specs.Prelude.{nat_lt, Result, Ok, Err, IfOk}
use Rattle.std.proofs.lemmas.Bool.{cases_Bool, eqb-true, lt-ltb, le-ltb}
use Rattle.std.proofs.lemmas.List.{drop_more}
use Rattle.json.specs.Json.{Json}
use Rattle.json.specs.Value.{value_view}
use Rattle.json.specs.declared.value.Value.{Value}
use Rattle.section.specs.Texts.{IsPlainKind, IsReadKind}
use Rattle.section.specs.Unlike.{AreLinesOf, count_alike, count_same, other_case, stands_twice, taken_line}
use Rattle.section.specs.Unread.{line}
use Rattle.section.specs.declared.kinds.Kind.{Kind}
use Rattle.section.specs.declared.kinds.Kind.TheVariants.{Unlike}

-- ---- a key

-- the line of a key, by how often it stands there in any case, and how often as it is
line_by : List ℕ → List ℕ → ℕ → ℕ → List ℕ
line_by place k n m = cond (nat_lt 1 n) (line place k stands_twice) (cond (n == m) [] (line place k other_case))

module _ (place k : List ℕ) (n m : ℕ) where
  by_twice : 1 < n → line_by place k n m ≡ line place k stands_twice
  unfolding line_by
  by_twice h = rw (lt-ltb 1 n h) refl

  by_other : n ≤ 1 → (n == m) ≡ false → line_by place k n m ≡ line place k other_case
  unfolding line_by
  by_other h e = rw (le-ltb 1 n h, e) refl

not_equal : (n m : ℕ) → (n ≢ m) → (n == m) ≡ false
not_equal n m h = elim (cases_Bool (n == m)) [
  | inl same ↦ absurd (h (eqb-true n m same))
  | inr other ↦ other
]

module _ (place : List ℕ) (keys : List (List ℕ)) (k : List ℕ) (n : ℕ) (alike : n ≡ count_alike keys k) where
  pub taken_twice : 1 < n → line place k stands_twice ≡ taken_line place keys k
  unfolding line_by
  taken_twice h = sym (ap (λ x. line_by place k x (count_same keys k)) (sym alike) ∙ by_twice place k n (count_same keys k) h)

  pub taken_otherwise : (m : ℕ) → m ≡ count_same keys k → n ≤ 1 → n ≢ m → line place k other_case ≡ taken_line place keys k
  unfolding line_by
  taken_otherwise m same h e =
      sym (ap (λ x. line_by place k x (count_same keys k)) (sym alike) ∙ ap (line_by place k n) (sym same)
      ∙ by_other place k n m h (not_equal n m e))

-- ---- values that stand in a row

-- what is told of values from a place on is what is told of the first, and then of the others
module _ {A : Type 0} (one : ℕ → Json → List ℕ) (all : ℕ → List Json → List ℕ)
    (parts : (n : ℕ) (j : Json) (js : List Json) → all n (j ∷ js) ≡ one n j ++ all (n + 1) js) where
  pub one_more : (old new goal : List ℕ) (values : List (Value A)) (n : ℕ) (v : Value A) → n < length values → v ≡ get_or values n v
      → new ≡ old ++ one n (value_view v) → old ++ all n (map value_view (drop n values)) ≡ goal
      → new ++ all (n + 1) (map value_view (drop (n + 1) values)) ≡ goal
  one_more old new goal values n v lt at is before =
      let vs = drop (n + 1) values in
      let js = map value_view vs in
      let left : drop n values ≡ v ∷ vs = drop_more values n v lt ∙ ap (λ x. x ∷ vs) (sym at) in
      ap (λ l. l ++ all (n + 1) js) is ∙ append_assoc old (one n (value_view v)) (all (n + 1) js)
      ∙ ap (λ l. old ++ l) (sym (parts n (value_view v) js)) ∙ ap (λ xs. old ++ all n (map value_view xs)) (sym left) ∙ before

-- ---- a text

no_lines : (lines : List ℕ) → (length lines == 0) ≡ true → lines ≡ []
no_lines [] h = refl
no_lines (b ∷ bs) h = absurd (omega (arith, eqb-true (length (b ∷ bs)) 0 h))

some_lines : (lines : List ℕ) → (length lines == 0) ≡ false → lines ≢ []
some_lines lines h none = absurd (let zero : (length lines == 0) ≡ true = ap (λ (l : List ℕ). length l == 0) none in cc)

pub alike_kind : {E : Type 0} (bytes lines : List ℕ) → AreLinesOf bytes lines → (length lines == 0) ≡ true → (r : Result Kind E)
    → IfOk r (IsPlainKind bytes) → IfOk r (IsReadKind bytes)
alike_kind bytes lines are none (Ok kind) h = inl (subst (AreLinesOf bytes) (no_lines lines none) are, h)
alike_kind bytes lines are none (Err e) h = tt

pub unlike_kind : (bytes lines : List ℕ) → AreLinesOf bytes lines → (length lines == 0) ≡ false → IsReadKind bytes Unlike
unlike_kind bytes lines are some = inr ((lines, are, some_lines lines some), refl)
