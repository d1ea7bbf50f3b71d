-- What is built of the same parts is one profile.
use Rattle.std.proofs.Common.{◌≡◌, ℕ, ◌≤◌, inl, inr, List, [], ◌∷◌, ◌++◌, length, refl, sym, ◌∙◌, ap, subst, arith}
use Rattle.std.specs.Prelude.{Some, slice_get}
use Rattle.std.specs.List.{Contains}
use Rattle.std.proofs.lemmas.List.Elements.{All-contains}
use Rattle.std.proofs.lemmas.Option.{slice_get_within, get_or_from_slice_get}
use Rattle.machines.specs.declared.arch.Arch.{Arch}
use Rattle.machines.specs.Arch.{family_of}
use Rattle.profile.specs.declared.rules.Rule.{Rule}
use Rattle.profile.specs.Machines.{in_order}
use Rattle.profile.specs.Policy.{Policy, InOrder, AreDifferent, most_rules}
use Rattle.profile.specs.Build.{KeepsOnce, IsBuiltOf, BuildingIsOne, AreTooMany}
use Rattle.profile.specs.Build as build
use Rattle.profile.proofs.KeptLaws.{kept_in, place_cases}
use Rattle.profile.proofs.MachineLaws.{family_in, same_order}

-- ---- rules

module _ {A : Type 0} where
  not_empty : (xs : List A) (x : A) → [] ≡ xs ++ x ∷ [] → ⊥
  not_empty [] x h = cc
  not_empty (y ∷ ys) x h = cc

  last_parts : (xs ys : List A) (x y : A) → xs ++ x ∷ [] ≡ ys ++ y ∷ [] → (xs ≡ ys) × (x ≡ y)
  last_parts [] [] x y h = (refl, cc)
  last_parts [] (b ∷ ys) x y h = let rest : [] ≡ ys ++ y ∷ [] = cc in absurd (not_empty ys y rest)
  last_parts (a ∷ xs) [] x y h = let rest : [] ≡ xs ++ x ∷ [] = cc in absurd (not_empty xs x (rest))
  last_parts (a ∷ xs) (b ∷ ys) x y h =
      let head : a ≡ b = cc in
      let tail : xs ++ x ∷ [] ≡ ys ++ y ∷ [] = cc in
      let rest = last_parts xs ys x y tail in
      let front : xs ≡ ys = rest.0 in
      (cc, rest.1)

-- equal lists keep the same
pub one_kept_of : (xs ys ks ls : List Rule) → KeepsOnce xs ks → KeepsOnce ys ls → xs ≡ ys → ks ≡ ls
one_kept_of _ _ _ _ build.none build.none h = refl
one_kept_of _ _ _ _ build.none (build.first ys ls y q new) h = absurd (not_empty ys y h)
one_kept_of _ _ _ _ build.none (build.again ys ls y q has) h = absurd (not_empty ys y h)
one_kept_of _ _ _ _ (build.first xs ks x p new) build.none h = absurd (not_empty xs x (sym h))
one_kept_of _ _ _ _ (build.first xs ks x p new) (build.first ys ls y q new_y) h =
    let parts = last_parts xs ys x y h in
    let front : ks ≡ ls = one_kept_of xs ys ks ls p q parts.0 in
    let last : x ≡ y = parts.1 in
    cc
one_kept_of _ _ _ _ (build.first xs ks x p new) (build.again ys ls y q has) h =
    let parts = last_parts xs ys x y h in
    absurd (new (subst (λ zs. Contains zs x) (sym parts.0) (subst (Contains ys) (sym parts.1) has)))
one_kept_of _ _ _ _ (build.again xs ks x p has) build.none h = absurd (not_empty xs x (sym h))
one_kept_of _ _ _ _ (build.again xs ks x p has) (build.first ys ls y q new) h =
    let parts = last_parts xs ys x y h in
    absurd (new (subst (λ zs. Contains zs y) parts.0 (subst (Contains xs) parts.1 has)))
one_kept_of _ _ _ _ (build.again xs ks x p has) (build.again ys ls y q has_y) h = one_kept_of xs ys ks ls p q (last_parts xs ys x y h).0

-- where few rules are kept they are not too many
pub not_many : (rules kept : List Rule) → KeepsOnce rules kept → length kept ≤ most_rules → ¬ AreTooMany rules
not_many rules kept once few (more, once', long) =
    omega (arith, few, long, ap length (one_kept_of rules rules kept more once once' refl))

rule_at : (xs : List Rule) (x : Rule) (n : ℕ) → slice_get xs n ≡ Some x → Contains xs x
rule_at xs x n e = (n, slice_get_within xs n x e, get_or_from_slice_get xs n x x e)

-- what is kept stands at one place
pub kept_differ : (rules kept : List Rule) → KeepsOnce rules kept → AreDifferent kept
kept_differ _ _ build.none i j rule at-i at-j = cc
kept_differ _ _ (build.again rules kept x h has) i j rule at-i at-j = kept_differ rules kept h i j rule at-i at-j
kept_differ _ _ (build.first rules kept x h new) i j rule at-i at-j =
    elim (place_cases kept x rule i at-i) [
      | inl early-i ↦ elim (place_cases kept x rule j at-j) [
        | inl early-j ↦ kept_differ rules kept h i j rule early-i.1 early-j.1
        | inr last-j ↦ absurd (new (subst (Contains rules) (sym last-j.1) (kept_in rules kept h rule (rule_at kept rule i early-i.1))))
      ]
      | inr last-i ↦ elim (place_cases kept x rule j at-j) [
        | inl early-j ↦ absurd (new (subst (Contains rules) (sym last-i.1) (kept_in rules kept h rule (rule_at kept rule j early-j.1))))
        | inr last-j ↦ last-i.0 ∙ sym last-j.0
      ]
    ]

-- ---- machines

abbrev Within : List Arch → List Arch → Type 0
Within xs ys = (a : Arch) → Contains xs a → Contains ys a

-- machines in order that list each other are of one family, and the same
pub one_order : (xs ys : List Arch) → InOrder xs → InOrder ys → Within xs ys → Within ys xs → xs ≡ ys
one_order [] [] p q there back = refl
one_order [] (y ∷ ys) p q there back = let none = back y (0, omega arith, refl) in absurd (omega (arith, none.1))
one_order (x ∷ xs) ys (f, p) (g, q) there back =
    let first : Contains (x ∷ xs) x = (0, omega arith, refl) in
    let of_f : family_of x ≡ f = All-contains (λ a. family_of a ≡ f) (x ∷ xs) x (family_in f (x ∷ xs) (x ∷ xs) p) first in
    let of_g : family_of x ≡ g = All-contains (λ a. family_of a ≡ g) ys x (family_in g ys ys q) (there x first) in
    p ∙ same_order f (x ∷ xs) ys there back ∙ ap (λ family. in_order family ys) (sym of_f ∙ of_g) ∙ sym q

-- ---- profiles

policy_of : Arch → List Arch → ℕ → List Rule → Policy
policy_of native machines word rules = record { native = native; machines = machines; default_word = word; rules = rules }

pub same_policy : (p q : Policy) → p.native ≡ q.native → p.machines ≡ q.machines → p.default_word ≡ q.default_word → p.rules ≡ q.rules
    → p ≡ q
unfolding policy_of
same_policy p q en em ew er =
    ap (λ n. policy_of n p.machines p.default_word p.rules) en
    ∙ ap (λ ms. policy_of q.native ms p.default_word p.rules) em
    ∙ ap (λ w. policy_of q.native q.machines w p.rules) ew
    ∙ ap (policy_of q.native q.machines q.default_word) er

built_within : (native : Arch) (archs : List Arch) (word : ℕ) (rules : List Rule) (p q : Policy) → IsBuiltOf native archs word rules p
    → IsBuiltOf native archs word rules q → Within p.machines q.machines
built_within native archs word rules p q m n a has = All-contains (Contains q.machines) archs a n.machines_all (m.machines_listed a has)

pub building_is_one : BuildingIsOne
building_is_one native archs word rules p q m n =
    same_policy p q (m.native_is ∙ sym n.native_is)
    (one_order p.machines q.machines m.is_profile.machines_in_order n.is_profile.machines_in_order
    (built_within native archs word rules p q m n) (built_within native archs word rules q p n m))
    (m.default_is ∙ sym n.default_is)
    (one_kept_of rules rules p.rules q.rules m.rules_kept n.rules_kept refl)
