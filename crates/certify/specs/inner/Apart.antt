-- Where calls are told apart: by their machines' tokens, then by halves of their numbers.
use Rattle.std.specs.Prelude.{◌≡◌, ℕ, ◌+◌, ◌-◌, ◌/◌, ◌<◌, ◌≤◌, ◌⊎◌, List, All, Any, Some, Contains, slice_get}
use Rattle.machines.specs.declared.arch.Arch.{Arch}
use Rattle.machines.specs.declared.numbers.Numbers.{Numbers}
use Rattle.machines.specs.Arch.{token_of}
use Rattle.machines.specs.Numbers.{foreign_numbers}
use Rattle.rule_compile.specs.Shape.{above_all_numbers}
use Rattle.cert_state.specs.declared.literal.Lit.{Lit}
use Rattle.cert_state.specs.declared.literal.Lit.TheVariants.{In, Bits, NotBits}
use Rattle.cert_state.specs.Literals.{all_bits}
use Rattle.cert_state.specs.Entailment.{Entails}
use Rattle.certify.specs.inner.Leaf.{BeginsWithin}

-- ---- machines

-- it is told whether the token is this
abbrev pub IsTold : List Lit → ℕ → Type 0
IsTold known token = Entails known (Bits 1 all_bits token) ⊎ Entails known (NotBits 1 all_bits token)

abbrev pub AreTold : List Lit → List Arch → Type 0
AreTold known machines = (k : ℕ) (arch : Arch) → slice_get machines k ≡ Some arch → IsTold known (token_of arch)

-- the first machine of which it is not told, and the two literals that tell it
pub record IsFirstOpen (known : List Lit) (machines : List Arch) (one other : Lit) : Type 0 where
  pub at : ℕ
  pub arch : Arch
  pub there : slice_get machines at ≡ Some arch
  pub before : (k : ℕ) (a : Arch) → k < at → slice_get machines k ≡ Some a → IsTold known (token_of a)
  pub not_told : IsTold known (token_of arch) → ⊥
  pub one_is : one ≡ Bits 1 all_bits (token_of arch)
  pub other_is : other ≡ NotBits 1 all_bits (token_of arch)

-- ---- numbers

-- foreign numbers come apart first, and then each half of numbers is in the middle
pub record IsMiddle (foreign_ones : List Numbers) (lo hi cut : ℕ) : Type 0 where
  pub from : lo ≤ cut
  pub upto : cut < hi
  pub foreign : Any (BeginsWithin lo hi) foreign_ones
      → Any (λ numbers. BeginsWithin lo hi numbers × (cut + 1 ≡ numbers.first)) foreign_ones
  pub half : (Any (BeginsWithin lo hi) foreign_ones → ⊥) → cut ≡ lo + (hi - lo) / 2

-- one of the machines has the token
pub record IsMachine (machines : List Arch) (token : ℕ) (arch : Arch) : Type 0 where
  pub listed : Contains machines arch
  pub has_token : token_of arch ≡ token

-- the numbers are cut in the middle, by these two literals
pub record IsHalved (machines : List Arch) (token lo hi : ℕ) (one other : Lit) : Type 0 where
  pub arch : Arch
  pub machine : IsMachine machines token arch
  pub cut : ℕ
  pub middle : IsMiddle (foreign_numbers machines arch) lo hi cut
  pub one_is : one ≡ In 0 0 cut
  pub other_is : other ≡ In 0 (cut + 1) all_bits

-- there is one number, or the greatest is not a small one and no foreign ones begin there
abbrev pub IsWhole : List Numbers → ℕ → ℕ → Type 0
IsWhole foreign_ones lo hi = (lo ≡ hi) ⊎ ((above_all_numbers ≤ hi) × (Any (BeginsWithin lo hi) foreign_ones → ⊥))

-- no machine has the token, or the numbers are not cut
abbrev pub IsLeftWhole : List Arch → ℕ → ℕ → ℕ → Type 0
IsLeftWhole machines token lo hi =
    All (λ (arch : Arch). token_of arch ≡ token → ⊥) machines
    ⊎ ((arch : Arch) × IsMachine machines token arch × IsWhole (foreign_numbers machines arch) lo hi)
