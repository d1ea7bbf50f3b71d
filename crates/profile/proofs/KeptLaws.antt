-- The different rules of a list, as the list grows by a rule.
use Rattle.std.proofs.Common.{◌≡◌, ℕ, zero, suc, ◌+◌, ◌<◌, ◌≤◌, ◌⊎◌, inl, inr, true, false, List, [], ◌∷◌, ◌++◌}
use Rattle.std.proofs.Common.{length, get_or, refl, sym, ◌∙◌, ap, subst, arith, append_assoc}
use Rattle.std.proofs.Common.{length-append, Some}
use Rattle.std.specs.List.{Contains}
use Rattle.std.specs.Prelude.{slice_get}
use Rattle.std.proofs.lemmas.Bool.{cases_Bool, cases_lt}
use Rattle.std.proofs.lemmas.List.{append-nil, get_or_append_left}
use Rattle.std.proofs.lemmas.List.Elements.{Contains-append_left, Contains-push, Contains-push_cases}
use Rattle.std.proofs.lemmas.Option.{same_Some, slice_get_within, slice_get-get_or}
use Rattle.std.proofs.Math.Seq.{get_or-append_seam}
use Rattle.profile.specs.declared.rules.Rule.{Rule}
use Rattle.profile.specs.Policy.{most_rules}
use Rattle.profile.specs.Build.{KeepsOnce, AreTooMany}
use Rattle.profile.specs.Build as build
use Rattle.profile.specs.inner.Kept.{KeepsAt}
use Rattle.profile.proofs.Same.{equal_rule, equal_rule_decides}

-- what is kept is among the rules
pub kept_in : (rules kept : List Rule) → KeepsOnce rules kept → (x : Rule) → Contains kept x → Contains rules x
kept_in _ _ build.none x c = c
kept_in _ _ (build.first rules kept rule h new) x c =
    elim (Contains-push_cases kept rule x c) [
      | inl before ↦ Contains-append_left rules (rule ∷ []) x (kept_in rules kept h x before)
      | inr same ↦ subst (Contains (rules ++ rule ∷ [])) same (Contains-push rules rule)
    ]
kept_in _ _ (build.again rules kept rule h has) x c = Contains-append_left rules (rule ∷ []) x (kept_in rules kept h x c)

-- each rule is kept
pub in_kept : (rules kept : List Rule) → KeepsOnce rules kept → (x : Rule) → Contains rules x → Contains kept x
in_kept _ _ build.none x c = c
in_kept _ _ (build.first rules kept rule h new) x c =
    elim (Contains-push_cases rules rule x c) [
      | inl before ↦ Contains-append_left kept (rule ∷ []) x (in_kept rules kept h x before)
      | inr same ↦ subst (Contains (kept ++ rule ∷ [])) same (Contains-push kept rule)
    ]
in_kept _ _ (build.again rules kept rule h has) x c =
    elim (Contains-push_cases rules rule x c) [
      | inl before ↦ in_kept rules kept h x before
      | inr same ↦ subst (Contains kept) same (in_kept rules kept h rule has)
    ]

-- a rule stands in a list or does not
contains_cases : (xs : List Rule) (x : Rule) → Contains xs x ⊎ ¬ Contains xs x
contains_cases [] x = inr (λ c. absurd (omega (arith, c.1)))
contains_cases (y ∷ ys) x =
    elim (cases_Bool (equal_rule y x)) [
      | inl same ↦ inl (0, omega arith, (equal_rule_decides y x).0 same)
      | inr differs ↦ elim (contains_cases ys x) [
        | inl later ↦ inl (suc later.0, omega (arith, later.1), later.2)
        | inr never ↦ inr (absent y ys x differs never)
      ]
    ]
  where
    absent : (y : Rule) (ys : List Rule) (x : Rule) → equal_rule y x ≡ false → ¬ Contains ys x → ¬ Contains (y ∷ ys) x
    absent y ys x differs never (zero, lt, at) = let t : equal_rule y x ≡ true = (equal_rule_decides y x).1 at in cc
    absent y ys x differs never (suc k, lt, at) = never (k, omega (arith, lt), at)

-- further rules keep what is kept
pub keeps_further : (rules kept more : List Rule) → KeepsOnce rules kept
    → (all : List Rule) × KeepsOnce (rules ++ more) all × (length kept ≤ length all)
keeps_further rules kept [] h = (kept, subst (λ xs. KeepsOnce xs kept) (sym (append-nil rules)) h, omega arith)
keeps_further rules kept (x ∷ more) h =
    elim (contains_cases rules x) [
      | inl has ↦
          let rest = keeps_further (rules ++ x ∷ []) kept more (build.again rules kept x h has) in
          (rest.0, subst (λ xs. KeepsOnce xs rest.0) (append_assoc rules (x ∷ []) more) rest.1, rest.2)
      | inr new ↦
          let rest = keeps_further (rules ++ x ∷ []) (kept ++ x ∷ []) more (build.first rules kept x h new) in
          let longer : length (kept ++ x ∷ []) ≤ length rest.0 = rest.2 in (
            rest.0,
            subst (λ xs. KeepsOnce xs rest.0) (append_assoc rules (x ∷ []) more) rest.1,
            omega (arith, length-append kept (x ∷ []), longer),
          )
    ]

-- ---- the places

module _ {X : Type 0} where
  pub slice_get_left : (xs ys : List X) (n : ℕ) → n < length xs → slice_get (xs ++ ys) n ≡ slice_get xs n
  slice_get_left [] ys n lt = absurd (omega (arith, lt))
  slice_get_left (x ∷ xs) ys zero lt = refl
  slice_get_left (x ∷ xs) ys (suc n) lt = slice_get_left xs ys n (omega (arith, lt))

  pub slice_get_last : (xs : List X) (x : X) → slice_get (xs ++ x ∷ []) (length xs) ≡ Some x
  slice_get_last [] x = refl
  slice_get_last (y ∷ xs) x = slice_get_last xs x

  -- a place of the list with one more: an earlier one, or the last
  pub place_cases : (xs : List X) (x y : X) (n : ℕ) → slice_get (xs ++ x ∷ []) n ≡ Some y
      → ((n < length xs) × (slice_get xs n ≡ Some y)) ⊎ ((n ≡ length xs) × (x ≡ y))
  place_cases [] x y zero e = inr (refl, same_Some x y e)
  place_cases [] x y (suc n) e = cc
  place_cases (z ∷ xs) x y zero e = inl (omega arith, e)
  place_cases (z ∷ xs) x y (suc n) e =
      elim (place_cases xs x y n e) [
        | inl before ↦ inl (omega (arith, before.0), before.1)
        | inr last ↦ inr (ap suc last.0, last.1)
      ]

suc_or : (k n : ℕ) → k < n + 1 → (k < n) ⊎ (k ≡ n)
suc_or k n lt = elim (cases_lt k n) [ inl below ↦ inl below | inr past ↦ inr (omega arith) ]

pub push_length : {X : Type 0} (xs : List X) (x : X) → length (xs ++ x ∷ []) ≡ length xs + 1
push_length xs x = omega (arith, length-append xs (x ∷ []))

-- a rule that is not kept yet is kept at the next place
pub keeps_first : (rules kept : List Rule) (places : List ℕ) (rule : Rule) → KeepsAt rules kept places → ¬ Contains kept rule
    → KeepsAt (rules ++ rule ∷ []) (kept ++ rule ∷ []) (places ++ length rules ∷ [])
keeps_first rules kept places rule h new =
    let as_many : length places ≡ length kept = h.as_many in
    let before : (k : ℕ) → k < length kept → get_or (places ++ length rules ∷ []) k 0 ≡ get_or places k 0 =
    λ k lt. get_or_append_left places (length rules ∷ []) 0 k (omega arith) in
    let last : (k : ℕ) → k ≡ length kept → get_or (places ++ length rules ∷ []) k 0 ≡ length rules =
    λ k e. ap (λ (j : ℕ). get_or (places ++ length rules ∷ []) j 0) (e ∙ sym as_many)
    ∙ get_or-append_seam places (length rules) [] 0 in
    record {
      once = build.first rules kept rule h.once (λ c. new (in_kept rules kept h.once rule c));
      as_many = push_length places (length rules) ∙ ap (λ (n : ℕ). n + 1) as_many ∙ sym (push_length kept rule);
      within = λ k lt.
          elim (suc_or k (length kept) (omega (arith, push_length kept rule, lt))) [
            | inl below ↦ omega (arith, before k below, h.within k below, push_length rules rule)
            | inr end ↦ omega (arith, last k end, push_length rules rule)
          ];
      at = λ k d lt.
          elim (suc_or k (length kept) (omega (arith, push_length kept rule, lt))) [
            | inl below ↦
                ap (λ (j : ℕ). get_or (rules ++ rule ∷ []) j d) (before k below)
                ∙ get_or_append_left rules (rule ∷ []) d (get_or places k 0) (h.within k below)
                ∙ h.at k d below ∙ sym (get_or_append_left kept (rule ∷ []) d k below)
            | inr end ↦
                ap (λ (j : ℕ). get_or (rules ++ rule ∷ []) j d) (last k end) ∙ get_or-append_seam rules rule [] d
                ∙ sym (ap (λ (j : ℕ). get_or (kept ++ rule ∷ []) j d) end ∙ get_or-append_seam kept rule [] d)
          ];
      rising = λ i j lt in-places.
          elim (suc_or j (length kept) (omega (arith, push_length places (length rules), as_many, in-places))) [
            | inl below ↦ omega (
              arith,
              before i (omega (arith, lt, below)),
              before j below,
              h.rising i j lt (omega (arith, as_many, below)),
            )
            | inr end ↦ omega (arith, before i (omega (arith, lt, end)), last j end, h.within i (omega (arith, lt, end)))
          ];
      first = λ n y e.
          elim (place_cases rules rule y n e) [
            | inl below ↦
                let found = h.first n y below.1 in
                let in-kept : found.0 < length kept = slice_get_within kept found.0 y found.1 in
                (found.0, slice_get_left kept (rule ∷ []) found.0 in-kept ∙ found.1, omega (arith, before found.0 in-kept, found.2))
            | inr end ↦ (length kept, slice_get_last kept rule ∙ ap Some end.1, omega (arith, last (length kept) refl, end.0))
          ];
    }

-- a rule that is kept already changes nothing
pub keeps_again : (rules kept : List Rule) (places : List ℕ) (rule : Rule) → KeepsAt rules kept places → Contains kept rule
    → KeepsAt (rules ++ rule ∷ []) kept places
keeps_again rules kept places rule h has = record {
  once = build.again rules kept rule h.once (kept_in rules kept h.once rule has);
  as_many = h.as_many;
  within = λ k lt. omega (arith, h.within k lt, push_length rules rule);
  at = λ k d lt. get_or_append_left rules (rule ∷ []) d (get_or places k 0) (h.within k lt) ∙ h.at k d lt;
  rising = h.rising;
  first = λ n y e.
      elim (place_cases rules rule y n e) [
        | inl below ↦ h.first n y below.1
        | inr end ↦
            let earlier : get_or places has.0 0 < length rules = h.within has.0 has.1 in
            let found : get_or kept has.0 rule ≡ rule = has.2 in
            (has.0, slice_get-get_or kept has.0 rule has.1 ∙ ap Some (found ∙ end.1), omega (arith, earlier, end.0))
      ];
}

pub keeps_none : KeepsAt [] [] []
keeps_none = record {
  once = build.none;
  as_many = refl;
  within = λ k lt. absurd (omega (arith, lt));
  at = λ k d lt. absurd (omega (arith, lt));
  rising = λ i j lt in-places. absurd (omega (arith, in-places));
  first = λ n y e. cc;
}

-- one different rule more than a profile may have
pub too_many : (rules kept more : List Rule) (rule : Rule) → KeepsOnce rules kept → ¬ Contains kept rule → length kept ≡ most_rules
    → AreTooMany (rules ++ rule ∷ more)
too_many rules kept more rule h new full =
    let all = keeps_further (rules ++ rule ∷ []) (kept ++ rule ∷ []) more
    (build.first rules kept rule h (λ c. new (in_kept rules kept h rule c))) in
    let longer : length (kept ++ rule ∷ []) ≤ length all.0 = all.2 in (
      all.0,
      subst (λ xs. KeepsOnce xs all.0) (append_assoc rules (rule ∷ []) more) all.1,
      omega (arith, push_length kept rule, full, longer),
    )

pub keeps_same : (rules rules' kept kept' : List Rule) (places places' : List ℕ) → rules' ≡ rules → kept' ≡ kept → places' ≡ places
    → KeepsAt rules kept places → KeepsAt rules' kept' places'
keeps_same rules rules' kept kept' places places' er ek ep h =
    subst (λ (xs : List Rule). KeepsAt xs kept' places') (sym er)
    (subst (λ (xs : List Rule). KeepsAt rules xs places') (sym ek)
    (subst (λ (xs : List ℕ). KeepsAt rules kept xs) (sym ep) h))
