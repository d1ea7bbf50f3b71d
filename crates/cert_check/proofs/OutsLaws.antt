-- Rules that are said to be out: places marked one by one, and rules asked one by one.
use Rattle.std.proofs.Common.{◌≡◌, ℕ, zero, suc, ◌<◌, Bool, true, false, List, [], ◌∷◌, refl, sym, subst, ◌∙◌, inl, inr, ◌⊎◌, arith}
use Rattle.std.specs.Prelude.{◌↔◌, Contains, Some, replicate, slice_get, slice_index_or}
use Rattle.std.proofs.lemmas.Bool.{cases_eq, eq-eqb, ne_eqb}
use Rattle.std.proofs.lemmas.List.{get_or-replicate}
use Rattle.std.proofs.lemmas.Option.{same_Some}
use Rattle.profile.specs.declared.rules.Rule.{Rule}
use Rattle.profile.specs.Policy.{Policy}
use Rattle.cert_state.specs.declared.literal.Lit.{Lit}
use Rattle.cert_check.specs.Agree.{IsRefuted}
use Rattle.cert_check.specs.inner.Followed.{IsOutBy}
use Rattle.cert_check.specs.inner.Marked.{is_among, AreMarked, AreMarkedBut}

-- a list that is an element and the rest
module _ {X : Type 0} (x : X) (all rest : List X) (e : all ≡ x ∷ rest) where
  pub cases : (k : X) → Contains all k → (x ≡ k) ⊎ Contains rest k
  cases k has = by_place (subst (λ xs. Contains xs k) e has) where
    by_place : Contains (x ∷ rest) k → (x ≡ k) ⊎ Contains rest k
    by_place (zero, lt, is) = inl is
    by_place (suc i, lt, is) = inr (i, omega arith, is)

  pub first : (k : X) → x ≡ k → Contains all k
  first k is = subst (λ xs. Contains xs k) (sym e) (0, omega arith, is)

  pub later : (k : X) → Contains rest k → Contains all k
  later k has = subst (λ xs. Contains xs k) (sym e) (suc has.0, omega (arith, has.1), has.2)

-- ---- places marked

pub none_marked : (places rest : List ℕ) → rest ≡ places → AreMarkedBut places (replicate 8192 false) rest
none_marked places rest e k d lt = (
  λ h. elim h [
    | inl marked ↦ absurd (let is : false ≡ true = sym (get_or-replicate 8192 k false d lt) ∙ marked in cc)
    | inr has ↦ subst (λ xs. Contains xs k) e has
  ],
  λ has. inr (subst (λ xs. Contains xs k) (sym e) has),
)

pub one_marked : (places : List ℕ) (old new : List Bool) (all : List ℕ) (place : ℕ) (rest : List ℕ) → all ≡ place ∷ rest
    → AreMarkedBut places old all
    → ((k : ℕ) (d : Bool) → k < 8192 → (slice_index_or new k d ≡ true) ↔ ((slice_index_or old k d ≡ true) ⊎ (k ≡ place)))
    → AreMarkedBut places new rest
one_marked places old new all place rest e so step k d lt = (
  λ h. elim h [
    | inl marked ↦ elim ((step k d lt).0 marked) [
      | inl before ↦ (so k d lt).0 (inl before)
      | inr is ↦ (so k d lt).0 (inr (first place all rest e k (sym is)))
    ]
    | inr has ↦ (so k d lt).0 (inr (later place all rest e k has))
  ],
  λ has. elim ((so k d lt).1 has) [
    | inl before ↦ inl ((step k d lt).1 (inl before))
    | inr waits ↦ elim (cases place all rest e k waits) [
      | inl is ↦ inl ((step k d lt).1 (inr (sym is)))
      | inr has ↦ inr has
    ]
  ],
)

pub same_answer : (a b : Bool) → (a ≡ true → b ≡ true) → (b ≡ true → a ≡ true) → a ≡ b
same_answer true b there back = sym (there refl)
same_answer false true there back = back refl
same_answer false false there back = refl

-- what is among the places is one of them
pub among : (places : List ℕ) (k : ℕ) → (is_among places k ≡ true) ↔ Contains places k
among [] k = (λ is. absurd (let e : false ≡ true = is in cc), λ has. absurd (omega (arith, has.1)))
among (p ∷ places) k = elim (cases_eq p k) [
  | inl same ↦ (λ _. (0, omega arith, same), λ _. rw (eq-eqb p k same) refl)
  | inr other ↦
      let past : is_among (p ∷ places) k ≡ is_among places k = rw (ne_eqb p k other) refl in (
        λ is. let has = (among places k).0 (sym past ∙ is) in (suc has.0, omega (arith, has.1), has.2),
        λ has. past ∙ (among places k).1 (elim (cases p (p
            ∷ places) places refl k has) [ inl same ↦ absurd (other same) | inr waits ↦ waits ]),
      )
]

pub all_marked : (places : List ℕ) (table : List Bool) (rest : List ℕ) → rest ≡ [] → AreMarkedBut places table rest → AreMarked places table
all_marked places table rest e so k d lt =
    same_answer (slice_index_or table k d) (is_among places k) (λ marked. (among places k).1 ((so k d lt).0 (inl marked))) (λ is.
    elim ((so k d lt).1 ((among places k).0 is)) [
      | inl marked ↦ marked
      | inr waits ↦ absurd (omega (arith, (subst (λ xs. Contains xs k) e waits).1))
    ])

-- ---- rules asked

-- a rule that the profile has at a place is out for one of the two reasons
pub out_by : (policy : Policy) (out : List ℕ) (known : List Lit) (place : ℕ) (rule : Rule) → slice_get policy.rules place ≡ Some rule
    → (Contains out place ⊎ IsRefuted known rule) ↔ IsOutBy policy out known place
out_by policy out known place rule stands = (
  λ reason. record { rule = rule; stands = stands; reason = reason },
  λ is. subst (λ r. Contains out place ⊎ IsRefuted known r) (same_Some is.rule rule (sym is.stands ∙ stands)) is.reason,
)
