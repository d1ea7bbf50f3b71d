-- Which numbers of a machine's token are foreign, and where they stand.
use Rattle.std.proofs.Common.{◌≡◌, ℕ, zero, suc, ◌+◌, ◌^◌, ◌<◌, ◌≤◌, ◌⊎◌, inl, inr, true, false, List, [], ◌∷◌, length, refl, sym, ◌∙◌, ap, subst, arith}
use Rattle.std.specs.Prelude.{slice_index_or}
use Rattle.std.specs.List.{Any, Contains, list_any}
use Rattle.std.proofs.lemmas.Bool.{cases_Bool, cases_lt}
use Rattle.std.proofs.lemmas.List.Elements.{All-contains}
use Rattle.machines.specs.declared.arch.Arch.{Arch}
use Rattle.machines.specs.declared.arch.Arch.TheVariants.{X86_64, Aarch64, LinuxX86_64, LinuxX86, LinuxX32, LinuxAarch64, LinuxArm, LinuxRiscv64, LinuxPpc64le, LinuxLoongarch64, LinuxS390x, LinuxS390}
use Rattle.machines.specs.declared.numbers.Numbers.{Numbers}
use Rattle.machines.specs.Arch.{token_of, family_of, same_arch}
use Rattle.machines.specs.Numbers.{from_to, other_numbers, foreign_numbers, shares_token, HasCall, IsOwn, IsWithin}
use Rattle.machines.proofs.ArchLaws.{Decides-same_arch}
use Rattle.machines.proofs.NumberLaws.{none, own_not_other}
use Rattle.machines.proofs.ForeignLaws.{foreign_is_other, none_foreign}
use Rattle.profile.specs.Policy.{InOrder}
use Rattle.profile.proofs.MachineLaws.{family_in}
use Rattle.rule_compile.specs.inner.Numbers.{behind}

-- ---- own numbers, and foreign ones

of_family : (machines : List Arch) (order : InOrder machines) (a : Arch) → Contains machines a → family_of a ≡ order.0
of_family machines order a =
    All-contains (λ b. family_of b ≡ order.0) machines a (family_in order.0 machines machines order.1)

-- no number is both a listed machine's own and foreign
pub native_not_foreign : (machines : List Arch) (m : Arch) (nr : ℕ) → InOrder machines → Contains machines m
    → Any (HasCall (token_of m) nr) machines → Any (IsWithin nr) (foreign_numbers machines m) → ⊥
native_not_foreign machines m nr order listed (k, a, inside, at, has) foreign = elim (cases_Bool (same_arch a m)) [
  | inl same ↦
      own_not_other m nr (subst (λ x. IsOwn x nr) ((Decides-same_arch a m).0 same) has.1) (foreign_is_other machines m nr foreign)
  | inr differ ↦
      let its : Contains machines a = (k, inside, at) in
      let no = none_foreign machines m a its (of_family machines order a its ∙ sym (of_family machines order m listed)) has.0 differ in
      none nr (subst (Any (IsWithin nr)) no foreign)
]

-- ---- the stretches of foreign numbers

-- none, one of high numbers, or one of low numbers and the greatest number
pub data IsSplit (all : List Numbers) : Type 0 where
  no_stretch : all ≡ [] → IsSplit all
  one_stretch : (last : ℕ) → 0xfffffffe ≤ last → last ≤ 0xffffffff → all ≡ from_to 0x40000000 last ∷ [] → IsSplit all
  two_stretches : all ≡ from_to 0 0x3fffffff ∷ from_to 0xffffffff 0xffffffff ∷ [] → IsSplit all

others_split : (m : Arch) → IsSplit (other_numbers m)
others_split X86_64 = one_stretch 0xffffffff (omega arith) (omega arith) refl
others_split Aarch64 = no_stretch refl
others_split LinuxX86_64 = one_stretch 0xfffffffe (omega arith) (omega arith) refl
others_split LinuxX86 = no_stretch refl
others_split LinuxX32 = two_stretches refl
others_split LinuxAarch64 = no_stretch refl
others_split LinuxArm = no_stretch refl
others_split LinuxRiscv64 = no_stretch refl
others_split LinuxPpc64le = no_stretch refl
others_split LinuxLoongarch64 = no_stretch refl
others_split LinuxS390x = no_stretch refl
others_split LinuxS390 = no_stretch refl

none_when : (machines : List Arch) (m : Arch) → list_any (shares_token m) machines ≡ true → foreign_numbers machines m ≡ []
none_when machines m h = rw h refl

others_when : (machines : List Arch) (m : Arch) → list_any (shares_token m) machines ≡ false
    → foreign_numbers machines m ≡ other_numbers m
others_when machines m h = rw h refl

pub foreign_split : (machines : List Arch) (m : Arch) → IsSplit (foreign_numbers machines m)
foreign_split machines m = elim (cases_Bool (list_any (shares_token m) machines)) [
  | inl twice ↦ no_stretch (none_when machines m twice)
  | inr once ↦ subst IsSplit (sym (others_when machines m once)) (others_split m)
]

first_or_more : (nr : ℕ) (x : Numbers) (xs : List Numbers) → Any (IsWithin nr) (x ∷ xs) → IsWithin nr x ⊎ Any (IsWithin nr) xs
first_or_more nr x xs (zero, y, lt, at, h) = inl (subst (IsWithin nr) (sym at) h)
first_or_more nr x xs (suc k, y, lt, at, h) = inr (k, y, omega (arith, lt), at, h)

in_high : (last nr : ℕ) → Any (IsWithin nr) (from_to 0x40000000 last ∷ []) → (0x40000000 ≤ nr) × (nr ≤ last)
in_high last nr some = elim (first_or_more nr (from_to 0x40000000 last) [] some) [ inl is ↦ is | inr more ↦ absurd (none nr more) ]

in_low : (nr : ℕ) → Any (IsWithin nr) (from_to 0 0x3fffffff ∷ from_to 0xffffffff 0xffffffff ∷ []) → (nr ≤ 0x3fffffff) ⊎ (nr ≡ 0xffffffff)
in_low nr some = elim (first_or_more nr (from_to 0 0x3fffffff) (from_to 0xffffffff 0xffffffff ∷ []) some) [
  | inl is ↦ inl is.1
  | inr more ↦ elim (first_or_more nr (from_to 0xffffffff 0xffffffff) [] more) [
    | inl is ↦ inr (omega (arith, is.0, is.1))
    | inr past ↦ absurd (none nr past)
  ]
]

-- ---- one of them

-- The stretch at a place: no number between it and the one before it is foreign. It begins with number 0, or it is the last one
-- and begins behind all numbers of plain rules.
pub record StandsAt (all : List Numbers) (k : ℕ) (foreign : Numbers) : Type 0 where
  pub ordered : behind all k ≤ foreign.first
  pub some : foreign.first ≤ foreign.last
  pub small : foreign.last ≤ 0xffffffff
  pub own : (u : ℕ) → behind all k ≤ u → u < foreign.first → Any (IsWithin u) all → ⊥
  pub before : (behind all k ≡ 0) ⊎ ((512 ≤ behind all k) × (behind all k < foreign.first))
  pub further : (foreign.first ≡ 0) ⊎ ((512 < foreign.first) × (k + 1 ≡ length all))
  pub place : behind all (k + 1) ≡ foreign.last + 1

high_at : (last : ℕ) → 0xfffffffe ≤ last → last ≤ 0xffffffff → StandsAt (from_to 0x40000000 last ∷ []) 0 (from_to 0x40000000 last)
high_at last least most = record {
  ordered = omega arith;
  some = omega (arith, least);
  small = most;
  own = λ u from to is. let within = in_high last u is in omega (arith, to, within.0);
  before = inl refl;
  further = inr (omega arith, refl);
  place = refl;
}

abbrev both : List Numbers
both = from_to 0 0x3fffffff ∷ from_to 0xffffffff 0xffffffff ∷ []

low_at : StandsAt both 0 (from_to 0 0x3fffffff)
low_at = record {
  ordered = omega arith;
  some = omega arith;
  small = omega arith;
  own = λ u from to is. omega (arith, to);
  before = inl refl;
  further = inl refl;
  place = refl;
}

greatest_at : StandsAt both 1 (from_to 0xffffffff 0xffffffff)
greatest_at = record {
  ordered = omega arith;
  some = omega arith;
  small = omega arith;
  own = λ u from to is. elim (in_low u is) [ inl low ↦ omega (arith, from, low) | inr one ↦ omega (arith, to, one) ];
  before = inr (omega arith, omega arith);
  further = inr (omega arith, refl);
  place = refl;
}

-- the same of a list and a place that are these
moved : (all these : List Numbers) (k n : ℕ) (foreign : Numbers) → all ≡ these → k ≡ n → foreign ≡ slice_index_or all k (from_to 0 0)
    → StandsAt these n (slice_index_or these n (from_to 0 0)) → StandsAt all k foreign
moved all these k n foreign is at here stands =
    let same : foreign ≡ slice_index_or these n (from_to 0 0) =
    here ∙ ap (λ xs. slice_index_or xs k (from_to 0 0)) is ∙ ap (λ j. slice_index_or these j (from_to 0 0)) at in
    subst (λ xs. StandsAt xs k foreign) (sym is)
    (subst (λ j. StandsAt these j foreign) (sym at) (subst (λ f. StandsAt these n f) (sym same) stands))

pub stands_at : (all : List Numbers) (k : ℕ) (foreign : Numbers) → IsSplit all → k < length all
    → foreign ≡ slice_index_or all k (from_to 0 0) → StandsAt all k foreign
stands_at all k foreign (no_stretch is) inside here = absurd (omega (arith, inside, ap length is))
stands_at all k foreign (one_stretch last least most is) inside here =
    moved all (from_to 0x40000000 last ∷ []) k 0 foreign is (omega (arith, inside, ap length is)) here (high_at last least most)
stands_at all k foreign (two_stretches is) inside here = elim (cases_lt k 1) [
  | inl first ↦ moved all both k 0 foreign is (omega (arith, first)) here low_at
  | inr second ↦ moved all both k 1 foreign is (omega (arith, second, inside, ap length is)) here greatest_at
]

-- ---- behind all of them

pub record EndsAt (all : List Numbers) (end : ℕ) : Type 0 where
  pub small : end ≤ 2 ^ 32
  pub past : (u : ℕ) → end ≤ u → Any (IsWithin u) all → ⊥
  pub far : (end ≡ 0) ⊎ (512 ≤ end)

whole_ends : EndsAt [] 0
whole_ends = record { small = omega arith; past = λ u from is. none u is; far = inl refl }

high_ends : (last : ℕ) → 0xfffffffe ≤ last → last ≤ 0xffffffff → EndsAt (from_to 0x40000000 last ∷ []) (last + 1)
high_ends last least most = record {
  small = omega (arith, most);
  past = λ u from is. let within = in_high last u is in omega (arith, from, within.1);
  far = inr (omega (arith, least));
}

low_ends : EndsAt both (0xffffffff + 1)
low_ends = record {
  small = omega arith;
  past = λ u from is. elim (in_low u is) [ inl low ↦ omega (arith, from, low) | inr one ↦ omega (arith, from, one) ];
  far = inr (omega arith);
}

ended : (all these : List Numbers) (k n : ℕ) → all ≡ these → k ≡ length all → length these ≡ n → EndsAt these (behind these n)
    → EndsAt all (behind all k)
ended all these k n is at count ends =
    let same : k ≡ n = at ∙ ap length is ∙ count in
    subst (λ xs. EndsAt xs (behind xs k)) (sym is) (subst (λ j. EndsAt these (behind these j)) (sym same) ends)

pub ends_at : (all : List Numbers) (k : ℕ) → IsSplit all → k ≡ length all → EndsAt all (behind all k)
ends_at all k (no_stretch is) at = ended all [] k 0 is at refl whole_ends
ends_at all k (one_stretch last least most is) at =
    ended all (from_to 0x40000000 last ∷ []) k 1 is at refl (high_ends last least most)
ends_at all k (two_stretches is) at = ended all both k 2 is at refl low_ends
