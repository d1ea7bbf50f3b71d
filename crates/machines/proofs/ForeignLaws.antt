-- Laws of the numbers with a machine's token that are none of the listed machines' own.
use Rattle.std.proofs.Common.{◌≡◌, ℕ, ◌==◌, ◌^◌, ◌<◌, ◌⊎◌, inl, inr, Bool, true, false, not, List, [], refl, sym, subst, ◌∙◌, ap}
use Rattle.std.specs.Prelude.{◌&&◌}
use Rattle.std.specs.List.{Any, Contains, list_any}
use Rattle.std.proofs.lemmas.Bool.{and_parts, cases_Bool}
use Rattle.std.proofs.lemmas.Bool.Decides.{Decides-eqb}
use Rattle.std.proofs.lemmas.List.Folds.{Any-from_list_any, list_any_at}
use Rattle.machines.specs.declared.arch.Arch.{Arch}
use Rattle.machines.specs.declared.arch.Family.{Family}
use Rattle.machines.specs.declared.arch.Family.TheVariants.{Chosen, Whole}
use Rattle.machines.specs.Arch.{token_of, family_of, same_arch, same_family}
use Rattle.machines.specs.Numbers.{own_numbers, other_numbers, foreign_numbers, shares_token, IsWithin, IsOther, HasCall}
use Rattle.machines.proofs.NumberLaws.{none, own_or_other, shared}

-- ---- machines that share a token

unnot : (b : Bool) → not b ≡ true → b ≡ false
unnot true h = sym h
unnot false h = refl

one_family : (f g : Family) → same_family f g ≡ true → f ≡ g
one_family Chosen Chosen h = refl
one_family Chosen Whole h = cc
one_family Whole Chosen h = cc
one_family Whole Whole h = refl

same_self : (f : Family) → same_family f f ≡ true
same_self Chosen = refl
same_self Whole = refl

-- such a machine has the token, and the other numbers
record Shares (arch other : Arch) : Type 0 where
  token : token_of other ≡ token_of arch
  numbers : other_numbers arch ≡ own_numbers other

shares : (arch other : Arch) → shares_token arch other ≡ true → Shares arch other
shares arch other h =
    let parts = and_parts (not (same_arch other arch)) (same_family (family_of other) (family_of arch) && token_of other == token_of arch) h in
    let alike = and_parts (same_family (family_of other) (family_of arch)) (token_of other == token_of arch) parts.1 in
    let token : token_of other ≡ token_of arch = (Decides-eqb (token_of other) (token_of arch)).0 alike.1 in
    record {
      token = token;
      numbers =
          shared arch other (one_family (family_of other) (family_of arch) alike.0) token (unnot (same_arch other arch) parts.0);
    }

shares_by : (arch other : Arch) → family_of other ≡ family_of arch → token_of other ≡ token_of arch → same_arch other arch ≡ false
    → shares_token arch other ≡ true
shares_by arch other family token differ =
    let families : same_family (family_of other) (family_of arch) ≡ true = ap (same_family (family_of other)) (sym family)
    ∙ same_self (family_of other) in
    let tokens : (token_of other == token_of arch) ≡ true = (Decides-eqb (token_of other) (token_of arch)).1 token in
    rw (differ, families) tokens

-- ---- foreign numbers

foreign_when : (machines : List Arch) (arch : Arch) → list_any (shares_token arch) machines ≡ false
    → foreign_numbers machines arch ≡ other_numbers arch
foreign_when machines arch h = rw h refl

none_when : (machines : List Arch) (arch : Arch) → list_any (shares_token arch) machines ≡ true → foreign_numbers machines arch ≡ []
none_when machines arch h = rw h refl

-- a foreign number is one of the others
pub foreign_is_other : (machines : List Arch) (arch : Arch) (nr : ℕ) → Any (IsWithin nr) (foreign_numbers machines arch) → IsOther arch nr
foreign_is_other machines arch nr foreign =
    elim (cases_Bool (list_any (shares_token arch) machines)) [
      | inl twice ↦ absurd (none nr (subst (Any (IsWithin nr)) (none_when machines arch twice) foreign))
      | inr once ↦ subst (Any (IsWithin nr)) (foreign_when machines arch once) foreign
    ]

-- each number with the token of a listed machine is one's own, or foreign
pub native_or_foreign : (machines : List Arch) (arch : Arch) (nr : ℕ) → nr < 2 ^ 32 → Contains machines arch
    → Any (HasCall (token_of arch) nr) machines ⊎ Any (IsWithin nr) (foreign_numbers machines arch)
native_or_foreign machines arch nr small listed =
    elim (own_or_other arch nr small) [
      | inl own ↦ inl (listed.0, arch, listed.1, listed.2, (refl, own))
      | inr other ↦ elim (cases_Bool (list_any (shares_token arch) machines)) [
        | inl twice ↦
            let at = Any-from_list_any (shares_token arch) machines twice in
            let s = shares arch at.1 at.4 in
            inl (at.0, at.1, at.2, at.3, (s.token, subst (Any (IsWithin nr)) s.numbers other))
        | inr once ↦ inr (subst (Any (IsWithin nr)) (sym (foreign_when machines arch once)) other)
      ]
    ]

-- no number is foreign where another machine of the family has the token
pub none_foreign : (machines : List Arch) (arch other : Arch) → Contains machines other → family_of other ≡ family_of arch
    → token_of other ≡ token_of arch → same_arch other arch ≡ false → foreign_numbers machines arch ≡ []
none_foreign machines arch other listed family token differ =
    none_when machines arch
    (list_any_at (shares_token arch) machines listed.0 other listed.1
    (ap (shares_token arch) listed.2 ∙ shares_by arch other family token differ))
