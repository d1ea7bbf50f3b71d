-- Literals and their numbers in columns.
use Rattle.std.proofs.Common.{◌≡◌, ℕ, ◌+◌, ◌-◌, ◌<◌, ◌≤◌, List, [], ◌∷◌, ◌++◌, map, length, take, drop, sym, subst, ap, refl, ◌∙◌, arith, inl, inr, ◌↔◌, ◌⊎◌}
use Rattle.std.specs.Prelude.{Contains, bit_and, slice_index_or, slice_range, slice_set}
use Rattle.std.proofs.lemmas.List.{map-set, get_or-map, length-drop, length-take-le, get_or-drop, get_or-take, take_more}
use Rattle.std.specs.Int.Bits.{and_zero_r}
use Rattle.std.proofs.lemmas.List.Elements.{Contains-append_left, Contains-get_or, Contains-push, Contains-push_cases}
use Rattle.cert_state.specs.declared.literal.Lit.{Lit}
use Rattle.cert_state.specs.declared.literal.Lit.TheVariants.{In, Bits, NotBits}
use Rattle.cert_state.specs.Entailment.{IsExcluded}
use Rattle.cert_state.specs.Literals.{index_of}
use Rattle.cert_state.specs.inner.Columns.{AreRows, ExcludesBy, HasNumbers, datum_out, first_of, mask_out, second_of, tag_of}

-- two literals of the same numbers are one
pub same_numbers : (k l : Lit) → HasNumbers k (tag_of l) (first_of l) (second_of l) → k ≡ l
same_numbers (In v a b) (In w c d) h = let e : v ≡ w = omega (arith, h.0) in ap (λ x. In x a b) e ∙ ap (λ x. In w x b) h.1 ∙ ap (λ x. In w c x) h.2
same_numbers (Bits v a b) (Bits w c d) h = let e : v ≡ w = omega (arith, h.0) in ap (λ x. Bits x a b) e ∙ ap (λ x. Bits w x b) h.1 ∙ ap (λ x. Bits w c x) h.2
same_numbers (NotBits v a b) (NotBits w c d) h = let e : v ≡ w = omega (arith, h.0) in ap (λ x. NotBits x a b) e ∙ ap (λ x. NotBits w x b) h.1 ∙ ap (λ x. NotBits w c x) h.2
same_numbers (In v a b) (Bits w c d) h = absurd (omega (arith, h.0))
same_numbers (In v a b) (NotBits w c d) h = absurd (omega (arith, h.0))
same_numbers (Bits v a b) (In w c d) h = absurd (omega (arith, h.0))
same_numbers (Bits v a b) (NotBits w c d) h = absurd (omega (arith, h.0))
same_numbers (NotBits v a b) (In w c d) h = absurd (omega (arith, h.0))
same_numbers (NotBits v a b) (Bits w c d) h = absurd (omega (arith, h.0))

pub numbers_same : (k l : Lit) → k ≡ l → HasNumbers k (tag_of l) (first_of l) (second_of l)
numbers_same k l e = (ap tag_of e, ap first_of e, ap second_of e)

-- a column at a place
pub at_row : (f : Lit → ℕ) (lits : List Lit) (column : List ℕ) (row : ℕ) (l : Lit) (n : ℕ) → row < length lits → column ≡ map f lits
    → slice_index_or column row n ≡ f (slice_index_or lits row l)
at_row f lits column row l n lt e = ap (λ xs. slice_index_or xs row n) e ∙ get_or-map f lits row l n lt

-- a literal of the word that excludes is stated
module _ (lits : List Lit) (w m d : ℕ) where
  nothing : bit_and d 0 ≡ 1 → ⊥
  nothing h = let zero = and_zero_r d in omega (arith, h, zero)

  pub excluded_by : (l : Lit) → index_of l ≡ w → Contains lits l → ExcludesBy l m d → IsExcluded lits w m d
  excluded_by (In v a b) at has h = absurd (nothing h.1)
  excluded_by (Bits v a b) at has h = absurd (nothing h.1)
  excluded_by (NotBits v a b) at has h = record {
    mask = a;
    datum = b;
    stated = subst (λ x. Contains lits (NotBits x a b)) at has;
    within = h.0;
    same = h.1;
  }

-- with one more row, the literal of that row is one of them, or an earlier one is
module _ (lits : List Lit) (from row : ℕ) (l : Lit) (le : from ≤ row) (lt : row < length lits) where
  abbrev pub last : Lit
  last = slice_index_or lits row l

  here : slice_range lits from (row + 1) ≡ slice_range lits from row ++ last ∷ []
  here =
      ap (λ n. take n (drop from lits)) (omega (arith, le))
      ∙ take_more (drop from lits) (row - from) l (let long = length-drop from lits in omega (arith, le, lt, long))
      ∙ ap (λ x. slice_range lits from row ++ x ∷ [])
      (get_or-drop from lits (row - from) l ∙ ap (λ n. slice_index_or lits n l) (omega (arith, le)))

  pub last_or_before : (x : Lit) → Contains (slice_range lits from (row + 1)) x ↔ (Contains (slice_range lits from row) x ⊎ (last ≡ x))
  last_or_before x = (
    λ has. Contains-push_cases (slice_range lits from row) last x (subst (λ ls. Contains ls x) here has),
    λ h. subst (λ ls. Contains ls x) (sym here) (elim h [
      | inl before ↦ Contains-append_left (slice_range lits from row) (last ∷ []) x before
      | inr is ↦ subst (Contains (slice_range lits from row ++ last ∷ [])) is (Contains-push (slice_range lits from row) last)
    ]),
  )

  pub excluded_or_before : (w m d : ℕ) → index_of last ≡ w
      → IsExcluded (slice_range lits from (row + 1)) w m d ↔ (IsExcluded (slice_range lits from row) w m d ⊎ ExcludesBy last m d)
  excluded_or_before w m d at = (
    λ h. elim ((last_or_before (NotBits w h.mask h.datum)).0 h.stated) [
      | inl before ↦ inl (record { mask = h.mask; datum = h.datum; stated = before; within = h.within; same = h.same })
      | inr is ↦ inr (subst (λ k. ExcludesBy k m d) (sym is) (h.within, h.same))
    ],
    λ h. elim h [
      | inl out ↦ record {
        mask = out.mask;
        datum = out.datum;
        stated = (last_or_before (NotBits w out.mask out.datum)).1 (inl out.stated);
        within = out.within;
        same = out.same;
      }
      | inr by ↦ excluded_by (slice_range lits from (row + 1)) w m d last at ((last_or_before last).1 (inr refl)) by
    ],
  )

-- each of the rows from one place to another is one of all that are there
pub row_among : (lits : List Lit) (from to row : ℕ) (l : Lit) → from ≤ row → row < to → to ≤ length lits
    → Contains (slice_range lits from to) (slice_index_or lits row l)
row_among lits from to row l le lt within =
    let at : row - from < to - from = omega (arith, le, lt) in
    let left = length-drop from lits in
    let long = length-take-le (to - from) (drop from lits) (omega (arith, within, left)) in
    subst (Contains (slice_range lits from to))
    (get_or-take (to - from) (drop from lits) (row - from) l at ∙ get_or-drop from lits (row - from) l ∙ ap (λ n. slice_index_or lits n l) (omega (arith, le)))
    (Contains-get_or (slice_range lits from to) (row - from) l (omega (arith, at, long)))

-- a literal that is put in a row
pub rows_with : (lits : List Lit) (tags firsts seconds masks excluded : List ℕ) (row : ℕ) (l : Lit) → AreRows lits tags firsts seconds masks excluded
    → AreRows (slice_set lits row l) (slice_set tags row (tag_of l)) (slice_set firsts row (first_of l)) (slice_set seconds row (second_of l))
    (slice_set masks row (mask_out l)) (slice_set excluded row (datum_out l))
rows_with lits tags firsts seconds masks excluded row l so = record {
  has_tags = with tag_of tags so.has_tags;
  has_firsts = with first_of firsts so.has_firsts;
  has_seconds = with second_of seconds so.has_seconds;
  has_masks = with mask_out masks so.has_masks;
  has_excluded = with datum_out excluded so.has_excluded;
}
  where
    with : (f : Lit → ℕ) (column : List ℕ) → column ≡ map f lits → slice_set column row (f l) ≡ map f (slice_set lits row l)
    with f column e = ap (λ xs. slice_set xs row (f l)) e ∙ sym (map-set f lits row l)

-- by its numbers
pub rows_put : (lits : List Lit) (tags firsts seconds masks excluded : List ℕ) (row : ℕ) (l : Lit) (n : ℕ × ℕ × ℕ) (out : ℕ × ℕ)
    → n ≡ (tag_of l, first_of l, second_of l) → out ≡ (mask_out l, datum_out l) → AreRows lits tags firsts seconds masks excluded
    → AreRows (slice_set lits row l) (slice_set tags row n.0) (slice_set firsts row n.1) (slice_set seconds row n.2)
    (slice_set masks row out.0) (slice_set excluded row out.1)
rows_put lits tags firsts seconds masks excluded row l n out is also so =
    subst (λ k. AreRows (slice_set lits row l) (slice_set tags row n.0) (slice_set firsts row n.1) (slice_set seconds row n.2)
    (slice_set masks row k.0) (slice_set excluded row k.1)) (sym also)
    (subst (λ k. AreRows (slice_set lits row l) (slice_set tags row k.0) (slice_set firsts row k.1) (slice_set seconds row k.2)
    (slice_set masks row (mask_out l)) (slice_set excluded row (datum_out l))) (sym is)
    (rows_with lits tags firsts seconds masks excluded row l so))
