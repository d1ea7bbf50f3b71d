-- Laws of the numbers that are a machine's own.
use Rattle.std.proofs.Common.{◌≡◌, ℕ, zero, suc, ◌^◌, ◌<◌, ◌⊎◌, inl, inr, false, List, [], ◌∷◌, refl, sym, subst, arith}
use Rattle.std.specs.List.{Any}
use Rattle.std.proofs.lemmas.Bool.{cases_lt}
use Rattle.machines.specs.declared.arch.Arch.{Arch}
use Rattle.machines.specs.declared.arch.Arch.TheVariants.{X86_64, Aarch64, LinuxX86_64, LinuxX86, LinuxX32, LinuxAarch64, LinuxArm, LinuxRiscv64, LinuxPpc64le, LinuxLoongarch64, LinuxS390x, LinuxS390}
use Rattle.machines.specs.declared.numbers.Numbers.{Numbers}
use Rattle.machines.specs.Arch.{token_of, family_of, same_arch}
use Rattle.machines.specs.Numbers.{from_to, own_numbers, other_numbers, call_numbers, IsWithin, IsOwn, IsOther, IsAmong}

-- ---- one or two stretches of numbers

one : (nr : ℕ) (x : Numbers) → Any (IsWithin nr) (x ∷ []) → IsWithin nr x
one nr x (zero, y, lt, at, h) = subst (IsWithin nr) (sym at) h
one nr x (suc k, y, lt, at, h) = absurd (omega (arith, lt))

either : (nr : ℕ) (x y : Numbers) → Any (IsWithin nr) (x ∷ y ∷ []) → IsWithin nr x ⊎ IsWithin nr y
either nr x y (zero, z, lt, at, h) = inl (subst (IsWithin nr) (sym at) h)
either nr x y (suc zero, z, lt, at, h) = inr (subst (IsWithin nr) (sym at) h)
either nr x y (suc (suc k), z, lt, at, h) = absurd (omega (arith, lt))

pub none : (nr : ℕ) → Any (IsWithin nr) [] → ⊥
none nr (k, y, lt, at, h) = omega (arith, lt)

at_first : (nr : ℕ) (x : Numbers) (xs : List Numbers) → IsWithin nr x → Any (IsWithin nr) (x ∷ xs)
at_first nr x xs h = (0, x, omega arith, refl, h)

at_second : (nr : ℕ) (x y : Numbers) (xs : List Numbers) → IsWithin nr y → Any (IsWithin nr) (x ∷ y ∷ xs)
at_second nr x y xs h = (1, y, omega arith, refl, h)

-- ---- the shares of x86-64 and x32

abbrev all : List Numbers
all = from_to 0 0xffffffff ∷ []

abbrev low : List Numbers
low = from_to 0 0x3fffffff ∷ []

abbrev high : List Numbers
high = from_to 0x40000000 0xffffffff ∷ []

abbrev outer : List Numbers
outer = from_to 0 0x3fffffff ∷ from_to 0xffffffff 0xffffffff ∷ []

abbrev middle : List Numbers
middle = from_to 0x40000000 0xfffffffe ∷ []

in_all : (nr : ℕ) → nr < 2 ^ 32 → Any (IsWithin nr) all
in_all nr small = at_first nr (from_to 0 0xffffffff) [] (omega arith, omega (arith, small))

low_or_high : (nr : ℕ) → nr < 2 ^ 32 → Any (IsWithin nr) low ⊎ Any (IsWithin nr) high
low_or_high nr small =
    elim (cases_lt nr 0x40000000) [
      | inl below ↦ inl (at_first nr (from_to 0 0x3fffffff) [] (omega arith, omega (arith, below)))
      | inr from ↦ inr (at_first nr (from_to 0x40000000 0xffffffff) [] (omega (arith, from), omega (arith, small)))
    ]

outer_or_middle : (nr : ℕ) → nr < 2 ^ 32 → Any (IsWithin nr) outer ⊎ Any (IsWithin nr) middle
outer_or_middle nr small =
    elim (cases_lt nr 0x40000000) [
      | inl below ↦
          inl (at_first nr (from_to 0 0x3fffffff) (from_to 0xffffffff 0xffffffff ∷ []) (omega arith, omega (arith, below)))
      | inr from ↦ elim (cases_lt nr 0xffffffff) [
        | inl between ↦ inr (at_first nr (from_to 0x40000000 0xfffffffe) [] (omega (arith, from), omega (arith, between)))
        | inr last ↦
            inl (at_second nr (from_to 0 0x3fffffff) (from_to 0xffffffff 0xffffffff) [] (omega (arith, last), omega (arith, small)))
      ]
    ]

low_not_high : (nr : ℕ) → Any (IsWithin nr) low → Any (IsWithin nr) high → ⊥
low_not_high nr a b =
    let below = one nr (from_to 0 0x3fffffff) a in
    let from = one nr (from_to 0x40000000 0xffffffff) b in
    omega (arith, below.1, from.0)

outer_not_middle : (nr : ℕ) → Any (IsWithin nr) outer → Any (IsWithin nr) middle → ⊥
outer_not_middle nr a b =
    let between = one nr (from_to 0x40000000 0xfffffffe) b in
    elim (either nr (from_to 0 0x3fffffff) (from_to 0xffffffff 0xffffffff) a) [
      | inl below ↦ omega (arith, below.1, between.0)
      | inr last ↦ omega (arith, last.0, between.1)
    ]

turned : {P Q : Type 0} → P ⊎ Q → Q ⊎ P
turned (inl p) = inr p
turned (inr q) = inl q

-- ---- each number is a machine's own, or one of the others

pub own_or_other : (arch : Arch) (nr : ℕ) → nr < 2 ^ 32 → IsOwn arch nr ⊎ IsOther arch nr
own_or_other X86_64 nr small = low_or_high nr small
own_or_other Aarch64 nr small = inl (in_all nr small)
own_or_other LinuxX86_64 nr small = outer_or_middle nr small
own_or_other LinuxX86 nr small = inl (in_all nr small)
own_or_other LinuxX32 nr small = turned (outer_or_middle nr small)
own_or_other LinuxAarch64 nr small = inl (in_all nr small)
own_or_other LinuxArm nr small = inl (in_all nr small)
own_or_other LinuxRiscv64 nr small = inl (in_all nr small)
own_or_other LinuxPpc64le nr small = inl (in_all nr small)
own_or_other LinuxLoongarch64 nr small = inl (in_all nr small)
own_or_other LinuxS390x nr small = inl (in_all nr small)
own_or_other LinuxS390 nr small = inl (in_all nr small)

pub own_not_other : (arch : Arch) (nr : ℕ) → IsOwn arch nr → IsOther arch nr → ⊥
own_not_other X86_64 nr own other = low_not_high nr own other
own_not_other Aarch64 nr own other = none nr other
own_not_other LinuxX86_64 nr own other = outer_not_middle nr own other
own_not_other LinuxX86 nr own other = none nr other
own_not_other LinuxX32 nr own other = outer_not_middle nr other own
own_not_other LinuxAarch64 nr own other = none nr other
own_not_other LinuxArm nr own other = none nr other
own_not_other LinuxRiscv64 nr own other = none nr other
own_not_other LinuxPpc64le nr own other = none nr other
own_not_other LinuxLoongarch64 nr own other = none nr other
own_not_other LinuxS390x nr own other = none nr other
own_not_other LinuxS390 nr own other = none nr other

-- where there are no others, each number is the machine's own
pub all_own : (arch : Arch) (nr : ℕ) → other_numbers arch ≡ [] → nr < 2 ^ 32 → IsOwn arch nr
all_own arch nr is small =
    elim (own_or_other arch nr small) [ inl own ↦ own | inr other ↦ absurd (none nr (subst (Any (IsWithin nr)) is other)) ]

-- of two machines of one family and token, the others of one are the other's own
pub shared : (a b : Arch) → family_of b ≡ family_of a → token_of b ≡ token_of a → same_arch b a ≡ false
    → other_numbers a ≡ own_numbers b
shared LinuxX86_64 LinuxX32 family token differ = refl
shared LinuxX32 LinuxX86_64 family token differ = refl
shared a b family token differ = first_of (cc, grind arith)

-- ---- the numbers of a machine's calls are its own

abbrev few : List Numbers
few = from_to 0 511 ∷ []

few_all : (nr : ℕ) → Any (IsWithin nr) few → Any (IsWithin nr) all
few_all nr h =
    let within = one nr (from_to 0 511) h in
    at_first nr (from_to 0 0xffffffff) [] (omega arith, omega (arith, within.1))

few_low : (nr : ℕ) (xs : List Numbers) → Any (IsWithin nr) few → Any (IsWithin nr) (from_to 0 0x3fffffff ∷ xs)
few_low nr xs h =
    let within = one nr (from_to 0 511) h in
    at_first nr (from_to 0 0x3fffffff) xs (omega arith, omega (arith, within.1))

arm_all : (nr : ℕ) → Any (IsWithin nr) (from_to 0 511 ∷ from_to 0xf0000 0xf000f ∷ []) → Any (IsWithin nr) all
arm_all nr h =
    elim (either nr (from_to 0 511) (from_to 0xf0000 0xf000f) h) [
      | inl low ↦ at_first nr (from_to 0 0xffffffff) [] (omega arith, omega (arith, low.1))
      | inr private ↦ at_first nr (from_to 0 0xffffffff) [] (omega arith, omega (arith, private.1))
    ]

x32_middle : (nr : ℕ) → Any (IsWithin nr) (from_to 0x40000000 0x400003ff ∷ []) → Any (IsWithin nr) middle
x32_middle nr h =
    let within = one nr (from_to 0x40000000 0x400003ff) h in
    at_first nr (from_to 0x40000000 0xfffffffe) [] (omega (arith, within.0), omega (arith, within.1))

pub among_own : (arch : Arch) (nr : ℕ) → IsAmong arch nr → IsOwn arch nr
among_own X86_64 nr h = few_low nr [] h
among_own Aarch64 nr h = few_all nr h
among_own LinuxX86_64 nr h = few_low nr (from_to 0xffffffff 0xffffffff ∷ []) h
among_own LinuxX86 nr h = few_all nr h
among_own LinuxX32 nr h = x32_middle nr h
among_own LinuxAarch64 nr h = few_all nr h
among_own LinuxArm nr h = arm_all nr h
among_own LinuxRiscv64 nr h = few_all nr h
among_own LinuxPpc64le nr h = few_all nr h
among_own LinuxLoongarch64 nr h = few_all nr h
among_own LinuxS390x nr h = few_all nr h
among_own LinuxS390 nr h = few_all nr h
