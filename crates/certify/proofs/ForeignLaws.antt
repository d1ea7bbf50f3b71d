-- Foreign numbers of a machine of a plain profile: none, or one stretch of high ones.
use Rattle.std.proofs.Common.{◌≡◌, ℕ, zero, suc, ◌+◌, ◌^◌, ◌<◌, ◌≤◌, ◌⊎◌, inl, inr, true, false, List, [], ◌∷◌, refl, sym, ◌∙◌, ap, subst, arith}
use Rattle.std.specs.List.{Any, Contains, list_any}
use Rattle.std.proofs.lemmas.Bool.{cases_Bool}
use Rattle.std.proofs.lemmas.List.Elements.{All-contains}
use Rattle.machines.specs.declared.arch.Arch.{Arch}
use Rattle.machines.specs.declared.arch.Arch.TheVariants.{X86_64, Aarch64, LinuxX86_64, LinuxX86, LinuxX32, LinuxAarch64, LinuxArm, LinuxRiscv64, LinuxPpc64le, LinuxLoongarch64, LinuxS390x, LinuxS390}
use Rattle.machines.specs.declared.numbers.Numbers.{Numbers}
use Rattle.machines.specs.Arch.{token_of, family_of, same_arch}
use Rattle.machines.specs.Numbers.{from_to, other_numbers, own_numbers, foreign_numbers, shares_token, HasCall, IsWithin}
use Rattle.machines.proofs.ArchLaws.{Decides-same_arch}
use Rattle.machines.proofs.NumberLaws.{none}
use Rattle.machines.proofs.ForeignLaws.{native_or_foreign, none_foreign}
use Rattle.profile.specs.Policy.{InOrder}
use Rattle.profile.proofs.MachineLaws.{family_in}
use Rattle.rule_compile.specs.Shape.{AreSmallNative}
use Rattle.rule_compile.proofs.ForeignLaws.{native_not_foreign}
use Rattle.certify.specs.inner.Leaf.{BeginsWithin, LieIn}

-- a number with the machine's token is a listed machine's own, or it is foreign
abbrev pub IsNativeNumber : List Arch → Arch → ℕ → Type 0
IsNativeNumber machines m u = Any (HasCall (token_of m) u) machines

abbrev pub IsForeignNumber : List Arch → Arch → ℕ → Type 0
IsForeignNumber machines m u = Any (IsWithin u) (foreign_numbers machines m)

-- the one stretch that there may be, and what is the machine's own beside it
pub record IsStretch (machines : List Arch) (m : Arch) (last : ℕ) : Type 0 where
  pub is : foreign_numbers machines m ≡ from_to 0x40000000 last ∷ []
  pub least : 0xfffffffe ≤ last
  pub most : last ≤ 0xffffffff
  pub rest : List Numbers
  pub own : own_numbers m ≡ from_to 0 0x3fffffff ∷ rest
  pub behind : (last ≡ 0xffffffff) ⊎ (rest ≡ from_to 0xffffffff 0xffffffff ∷ [])

-- of two listed machines with one token the foreign numbers are the same
pub foreign_same : (machines : List Arch) → InOrder machines → (a b : Arch) → Contains machines a → Contains machines b
    → token_of a ≡ token_of b → foreign_numbers machines a ≡ foreign_numbers machines b
foreign_same machines (family, order) a b in_a in_b token =
    let of : (c : Arch) → Contains machines c → family_of c ≡ family =
    λ c. All-contains (λ d. family_of d ≡ family) machines c (family_in family machines machines order) in
    elim (cases_Bool (same_arch a b)) [
      | inl same ↦ ap (foreign_numbers machines) ((Decides-same_arch a b).0 same)
      | inr differ ↦ elim (cases_Bool (same_arch b a)) [
        | inl same ↦ sym (ap (foreign_numbers machines) ((Decides-same_arch b a).0 same))
        | inr other ↦
            none_foreign machines a b in_b (of b in_b ∙ sym (of a in_a)) (sym token) other
            ∙ sym (none_foreign machines b a in_a (of a in_a ∙ sym (of b in_b)) token differ)
      ]
    ]

module _ (machines : List Arch) (order : InOrder machines) (small : AreSmallNative machines) (m : Arch) (listed : Contains machines m) where
  no_low : foreign_numbers machines m ≡ from_to 0 0x3fffffff ∷ from_to 0xffffffff 0xffffffff ∷ [] → ⊥
  no_low is =
      let native = All-contains (λ arch. (nr : ℕ) → nr < 512 → Any (HasCall (token_of arch) nr) machines) machines m small listed 0
      (omega arith) in
      native_not_foreign machines m 0 order listed native
      (subst (Any (IsWithin 0)) (sym is) (0, from_to 0 0x3fffffff, omega arith, refl, (omega arith, omega arith)))

  by_arch : (a : Arch) → a ≡ m → foreign_numbers machines m ≡ other_numbers a
      → (foreign_numbers machines m ≡ []) ⊎ ((last : ℕ) × IsStretch machines m last)
  by_arch X86_64 same is = inr (
    0xffffffff,
    record {
      is = is;
      least = omega arith;
      most = omega arith;
      rest = [];
      own = ap own_numbers (sym same);
      behind = inl refl;
    },
  )
  by_arch Aarch64 same is = inl is
  by_arch LinuxX86_64 same is = inr (
    0xfffffffe,
    record {
      is = is;
      least = omega arith;
      most = omega arith;
      rest = from_to 0xffffffff 0xffffffff ∷ [];
      own = ap own_numbers (sym same);
      behind = inr refl;
    },
  )
  by_arch LinuxX86 same is = inl is
  by_arch LinuxX32 same is = absurd (no_low is)
  by_arch LinuxAarch64 same is = inl is
  by_arch LinuxArm same is = inl is
  by_arch LinuxRiscv64 same is = inl is
  by_arch LinuxPpc64le same is = inl is
  by_arch LinuxLoongarch64 same is = inl is
  by_arch LinuxS390x same is = inl is
  by_arch LinuxS390 same is = inl is

  none_when : list_any (shares_token m) machines ≡ true → foreign_numbers machines m ≡ []
  none_when h = rw h refl

  others_when : list_any (shares_token m) machines ≡ false → foreign_numbers machines m ≡ other_numbers m
  others_when h = rw h refl

  pub stretch : (foreign_numbers machines m ≡ []) ⊎ ((last : ℕ) × IsStretch machines m last)
  stretch = elim (cases_Bool (list_any (shares_token m) machines)) [
    | inl twice ↦ inl (none_when twice)
    | inr once ↦ by_arch m refl (others_when once)
  ]

  -- a foreign number lies in it
  in_stretch : (u : ℕ) → IsForeignNumber machines m u → (last : ℕ) × IsStretch machines m last × (0x40000000 ≤ u) × (u ≤ last)
  in_stretch u foreign = elim stretch [
    | inl is ↦ absurd (none u (subst (Any (IsWithin u)) is foreign))
    | inr (last, s) ↦
        let within = first_one u (from_to 0x40000000 last) (subst (Any (IsWithin u)) s.is foreign) in
        (last, s, within.0, within.1)
  ] where
    first_one : (u : ℕ) (x : Numbers) → Any (IsWithin u) (x ∷ []) → IsWithin u x
    first_one u x (zero, y, lt, at, h) = subst (IsWithin u) (sym at) h
    first_one u x (suc k, y, lt, at, h) = absurd (omega (arith, lt))

  pub foreign_is_high : (u : ℕ) → IsForeignNumber machines m u → 0x40000000 ≤ u
  foreign_is_high u foreign = (in_stretch u foreign).2

  pub within_stretch : (last u : ℕ) → IsStretch machines m last → 0x40000000 ≤ u → u ≤ last → IsForeignNumber machines m u
  within_stretch last u s from upto =
      subst (Any (IsWithin u)) (sym s.is) (0, from_to 0x40000000 last, omega arith, refl, (from, upto))

  -- numbers up to a foreign one are foreign from there on
  pub up_to_foreign : (u hi : ℕ) → IsForeignNumber machines m hi → 0x40000000 ≤ u → u ≤ hi → IsForeignNumber machines m u
  up_to_foreign u hi foreign from upto =
      let at = in_stretch hi foreign in
      within_stretch at.0 u at.1 from (omega (arith, upto, at.3))

  -- two foreign numbers lie in one stretch
  pub in_one : (lo hi : ℕ) → IsForeignNumber machines m lo → IsForeignNumber machines m hi → LieIn lo hi (foreign_numbers machines m)
  in_one lo hi at_lo at_hi =
      let at = in_stretch hi at_hi in
      subst (LieIn lo hi) (sym at.1.is) (0, from_to 0x40000000 at.0, omega arith, refl, (foreign_is_high lo at_lo, at.3))

  -- a number below the foreign ones is native
  pub low_is_native : (u : ℕ) → u < 0x40000000 → IsNativeNumber machines m u
  low_is_native u low = elim (native_or_foreign machines m u (omega (arith, low)) listed) [
    | inl native ↦ native
    | inr foreign ↦ absurd (let high = foreign_is_high u foreign in omega (arith, high, low))
  ]

  pub apart : (u : ℕ) → IsNativeNumber machines m u → IsForeignNumber machines m u → ⊥
  apart u native foreign = native_not_foreign machines m u order listed native foreign

  pub either : (u : ℕ) → u < 2 ^ 32 → IsNativeNumber machines m u ⊎ IsForeignNumber machines m u
  either u fits = native_or_foreign machines m u fits listed

  -- foreign numbers behind low ones begin there
  pub begins_behind : (lo hi : ℕ) → lo < 0x40000000 → IsForeignNumber machines m hi → Any (BeginsWithin lo hi) (foreign_numbers machines m)
  begins_behind lo hi low foreign =
      let at = in_stretch hi foreign in
      subst (Any (BeginsWithin lo hi)) (sym at.1.is) (0, from_to 0x40000000 at.0, omega arith, refl, (low, (at.2, at.3)))

  -- foreign numbers behind low ones are cut off where they begin
  pub cut_of_stretch : (lo hi cut : ℕ) → lo < 0x40000000 → IsForeignNumber machines m hi
      → (Any (BeginsWithin lo hi) (foreign_numbers machines m)
      → Any (λ numbers. BeginsWithin lo hi numbers × (cut + 1 ≡ numbers.first)) (foreign_numbers machines m)) → cut + 1 ≡ 0x40000000
  cut_of_stretch lo hi cut low foreign cuts =
      let at = in_stretch hi foreign in
      let one = from_to 0x40000000 at.0 in
      let begins = subst (Any (BeginsWithin lo hi)) (sym at.1.is) (0, one, omega arith, refl, (low, (at.2, at.3))) in
      first_is one (subst (Any (λ numbers. BeginsWithin lo hi numbers × (cut + 1 ≡ numbers.first))) at.1.is (cuts begins)) where
        first_is : (x : Numbers) → Any (λ numbers. BeginsWithin lo hi numbers × (cut + 1 ≡ numbers.first)) (x ∷ []) → cut + 1 ≡ x.first
        first_is x (zero, y, lt, same, h) = h.1 ∙ sym (ap (λ (n : Numbers). n.first) same)
        first_is x (suc k, y, lt, same, h) = absurd (omega (arith, lt))
