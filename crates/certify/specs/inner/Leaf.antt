-- Where what is known at a return settles the verdict.
use Rattle.std.specs.Prelude.{◌≡◌, ℕ, ◌<◌, ◌≤◌, ◌⊎◌, List, [], Contains, length}
use Rattle.std.specs.List.{All, Any}
use Rattle.machines.specs.declared.arch.Arch.{Arch}
use Rattle.machines.specs.declared.numbers.Numbers.{Numbers}
use Rattle.machines.specs.Arch.{token_of}
use Rattle.machines.specs.Numbers.{IsWithin, foreign_numbers}
use Rattle.profile.specs.Policy.{InOrder, Policy, Says}
use Rattle.cert_state.specs.declared.literal.Lit.{Lit}
use Rattle.cert_state.specs.Literals.{index_of}
use Rattle.cert_state.specs.Points.{IsPoint, IsRange, IsWhole}
use Rattle.cert_check.specs.Agree.{Agrees}
use Rattle.rule_compile.specs.Shape.{AreSmallNative, IsPlainRule, call}

-- a literal of all bits of the number or of the token
abbrev pub IsOfCalls : Lit → Type 0
IsOfCalls l = IsWhole l × (index_of l < 2)

-- the profile says the verdict of each call that is known to be possible
abbrev pub SaysThere : Policy → List Lit → ℕ → Type 0
SaysThere policy known v = (t u : ℕ) → IsPoint known 1 t → IsPoint known 0 u → Says policy (call t u) v

-- no listed machine is possible
abbrev pub IsForeign : Policy → List Lit → Type 0
IsForeign policy known = (arch : Arch) → Contains policy.machines arch → IsPoint known 1 (token_of arch) → ⊥

-- the numbers from one to another are all of one of these stretches
abbrev pub LieIn : ℕ → ℕ → List Numbers → Type 0
LieIn lo hi all = Any (λ numbers. (numbers.first ≤ lo) × (hi ≤ numbers.last)) all

-- the last one of some numbers is of this stretch, and the first one stands before it
abbrev pub BeginsWithin : ℕ → ℕ → Numbers → Type 0
BeginsWithin lo hi numbers = (lo < numbers.first) × IsWithin hi numbers

-- it is one machine's, and one number, or the default verdict, or foreign
pub record IsOfOne (policy : Policy) (known : List Lit) (v lo hi : ℕ) : Type 0 where
  pub arch : Arch
  pub listed : Contains policy.machines arch
  pub token : IsRange known 1 (token_of arch) (token_of arch)
  pub numbers : (lo ≡ hi) ⊎ ((policy.default_word ≡ v) ⊎ LieIn lo hi (foreign_numbers policy.machines arch))

-- so the rules of the profile agree
abbrev pub LeafAgrees : Type 0
LeafAgrees =
    (policy : Policy) (known : List Lit) (v lo hi from to : ℕ) → InOrder policy.machines → length known ≤ 512
    → All IsPlainRule policy.rules → AreSmallNative policy.machines → All IsOfCalls known
    → SaysThere policy known v
    → IsRange known 0 lo hi → IsRange known 1 from to → IsForeign policy known ⊎ IsOfOne policy known v lo hi → Agrees policy [] [] known v
