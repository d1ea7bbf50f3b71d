-- What clashes first among the different rules clashes first in the list that was given.
use Rattle.std.proofs.Common.{◌≡◌, ℕ, ◌<◌, ◌≤◌, inl, inr, List, length, get_or, take, sym, ◌∙◌, ap, subst, arith, Some}
use Rattle.std.specs.List.{Contains}
use Rattle.std.specs.Prelude.{slice_get}
use Rattle.std.proofs.lemmas.Bool.{cases_lt, cases_eq}
use Rattle.std.proofs.lemmas.List.{get_or-take, length-take-le}
use Rattle.std.proofs.lemmas.Option.{slice_get_within, get_or_from_slice_get, slice_get-get_or}
use Rattle.profile.specs.declared.rules.Rule.{Rule}
use Rattle.profile.specs.Build.{ClashAt, IsFirstClash}
use Rattle.profile.specs.inner.Kept.{KeepsAt}

-- both rules of a clash have a place
clash_in : (rules kept : List Rule) (places : List ℕ) (i j : ℕ) → KeepsAt rules kept places → ClashAt kept i j
    → (i < length places) × (j < length places)
clash_in rules kept places i j h (lt, a, b, at-i, at-j, clash) = (
  omega (arith, h.as_many, slice_get_within kept i a at-i),
  omega (arith, h.as_many, slice_get_within kept j b at-j),
)

-- what clashes among the kept rules clashes in the list
clash_at : (rules kept : List Rule) (places : List ℕ) (i j : ℕ) → KeepsAt rules kept places → ClashAt kept i j
    → ClashAt rules (get_or places i 0) (get_or places j 0)
clash_at rules kept places i j h (lt, a, b, at-i, at-j, clash) =
    let in-i : i < length kept = slice_get_within kept i a at-i in
    let in-j : j < length kept = slice_get_within kept j b at-j in (
      h.rising i j lt (omega (arith, h.as_many, in-j)),
      a,
      b,
      slice_get-get_or rules (get_or places i 0) a (h.within i in-i) ∙ ap Some (h.at i a in-i ∙ get_or_from_slice_get kept i a a at-i),
      slice_get-get_or rules (get_or places j 0) b (h.within j in-j) ∙ ap Some (h.at j b in-j ∙ get_or_from_slice_get kept j b b at-j),
      clash,
    )

-- places rise with the rules that are kept
earlier_place : (rules kept : List Rule) (places : List ℕ) (i j : ℕ) → KeepsAt rules kept places → i < length kept → j < length kept
    → get_or places i 0 < get_or places j 0 → i < j
earlier_place rules kept places i j h in-i in-j lt =
    elim (cases_lt i j) [
      | inl before ↦ before
      | inr past ↦ elim (cases_eq i j) [
        | inl same ↦ absurd (omega (arith, lt, ap (λ (k : ℕ). get_or places k 0) same))
        | inr other ↦ absurd (omega (arith, lt, h.rising j i (omega (arith, past, other)) (omega (arith, h.as_many, in-i))))
      ]
    ]

-- a rule before the place of a kept rule is kept before it
kept_before : (rules kept : List Rule) (places : List ℕ) (j n : ℕ) (x : Rule) → KeepsAt rules kept places → j < length kept
    → slice_get rules n ≡ Some x → n < get_or places j 0 → (k : ℕ) × (k < j) × (slice_get kept k ≡ Some x) × (get_or places k 0 ≤ n)
kept_before rules kept places j n x h in-j at before =
    let found = h.first n x at in
    let in-k : found.0 < length kept = slice_get_within kept found.0 x found.1 in
    (found.0, earlier_place rules kept places found.0 j h in-k in-j (omega (arith, before, found.2)), found.1, found.2)

taken_at : (kept : List Rule) (j k : ℕ) (x : Rule) → k < j → j < length kept → slice_get kept k ≡ Some x → Contains (take j kept) x
taken_at kept j k x lt in-j at =
    let few : length (take j kept) ≡ j = length-take-le j kept (omega (arith, in-j)) in
    (k, omega (arith, few, lt), get_or-take j kept k x lt ∙ get_or_from_slice_get kept k x x at)

-- the same of membership
among_earlier : (rules kept : List Rule) (places : List ℕ) (j : ℕ) (x : Rule) → KeepsAt rules kept places → j < length kept
    → Contains (take (get_or places j 0) rules) x → Contains (take j kept) x
among_earlier rules kept places j x h in-j (n, lt, at) =
    let p : ℕ = get_or places j 0 in
    let as_long : length (take p rules) ≡ p = length-take-le p rules (omega (arith, h.within j in-j)) in
    let before : n < p = omega (arith, as_long, lt) in
    let found : get_or rules n x ≡ x = sym (get_or-take p rules n x before) ∙ at in
    let here : slice_get rules n ≡ Some x =
    slice_get-get_or rules n x (omega (arith, before, h.within j in-j)) ∙ ap Some found in
    let k = kept_before rules kept places j n x h in-j here before in
    taken_at kept j k.0 x k.1 in-j k.2

-- the first clash of the rules that are lent is that of those that are kept, and both have a place
pub first_clash_in : (rules kept lent : List Rule) (places : List ℕ) (i j : ℕ) → KeepsAt rules kept places → lent ≡ kept
    → IsFirstClash lent i j → IsFirstClash kept i j × (i < length places) × (j < length places)
first_clash_in rules kept lent places i j h same f =
    let first : IsFirstClash kept i j = subst (λ (xs : List Rule). IsFirstClash xs i j) same f in
    let inside = clash_in rules kept places i j h first.clash in
    (first, inside.0, inside.1)

pub first_clash_at : (rules kept : List Rule) (places : List ℕ) (i j : ℕ) → KeepsAt rules kept places → IsFirstClash kept i j
    → IsFirstClash rules (get_or places i 0) (get_or places j 0)
first_clash_at rules kept places i j h f =
    let inside = clash_in rules kept places i j h f.clash in
    let in-j : j < length kept = omega (arith, h.as_many, inside.1) in
    record {
      clash = clash_at rules kept places i j h f.clash;
      second_least = λ r is_r a b in-a in-b.
          f.second_least r is_r a b (among_earlier rules kept places j a h in-j in-a) (among_earlier rules kept places j b h in-j in-b);
      first_least = λ n (lt, a, b, at-n, at-j, clash).
          let k = kept_before rules kept places j n a h in-j at-n lt in
          let second : slice_get kept j ≡ Some b =
          slice_get-get_or kept j b in-j ∙ ap Some (sym (h.at j b in-j) ∙ get_or_from_slice_get rules (get_or places j 0) b b at-j) in
          let least : i ≤ k.0 = f.first_least k.0 (k.1, a, b, k.2, second, clash) in
          elim (cases_eq i k.0) [
            | inl same ↦ omega (arith, k.3, ap (λ (m : ℕ). get_or places m 0) same)
            | inr other ↦ omega (arith, k.3, h.rising i k.0 (omega (arith, least, other)) (omega (arith, h.as_many, k.1, in-j)))
          ];
    }
