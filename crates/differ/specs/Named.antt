-- Which calls are named, and numbers of which none is.
use Rattle.std.specs.Prelude.{◌≡◌, ℕ, ◌==◌, ◌&&◌, Bool, true, false, ◌⊎◌, List}
use Rattle.std.specs.List.{list_any}
use Rattle.machines.specs.declared.numbers.Numbers.{Numbers}
use Rattle.machines.specs.Numbers.{IsWithin, from_to}
use Rattle.differ.specs.declared.named.Call.{Call}

abbrev pub is_call : ℕ → ℕ → Call → Bool
is_call token nr call = (token == call.token) && (nr == call.nr)

abbrev pub is_named : List Call → ℕ → ℕ → Bool
is_named list token nr = list_any (is_call token nr) list

-- each of the numbers is named with the token, or one that is not stands in the other list
abbrev pub IsCovered : List Call → List Call → ℕ → Numbers → Type 0
IsCovered named rest token numbers =
    ((nr : ℕ) → IsWithin nr numbers → is_named named token nr ≡ true)
    ⊎ ((nr : ℕ) × IsWithin nr numbers × (is_named named token nr ≡ false) × (is_named rest token nr ≡ true))

-- the numbers that each machine has or has not as a whole
abbrev pub low_numbers : Numbers
low_numbers = from_to 0 0x3fffffff

abbrev pub high_numbers : Numbers
high_numbers = from_to 0x40000000 0xfffffffe

abbrev pub last_number : Numbers
last_number = from_to 0xffffffff 0xffffffff

pub record AreCovered (named rest : List Call) (token : ℕ) : Type 0 where
  pub low : IsCovered named rest token low_numbers
  pub high : IsCovered named rest token high_numbers
  pub last : IsCovered named rest token last_number
