-- A set of the numbers below 512, a bit for each, 64 to a part.
use Rattle.std.specs.Prelude.{ℕ, zero, suc, ◌+◌, ◌*◌, ◌/◌, ◌%◌, ◌^◌, ◌==◌, Bool, true, List, Option, Some, None, if◌then◌else◌, slice_index}
use Rattle.shared_table.specs.declared.numbers.Numbers.{Numbers}

-- the number's bit is set
abbrev pub is_in : List ℕ → ℕ → Bool
is_in parts nr = slice_index parts (nr / 64) / 2 ^ (nr % 64) % 2 == 1

-- the number is in the set, where there is one
abbrev pub is_in_all : Option Numbers → ℕ → Bool
is_in_all None nr = true
is_in_all (Some numbers) nr = is_in numbers.parts nr

abbrev pub bit : Bool → ℕ
bit b = if b then 1 else 0

-- a bit for each of so many numbers from one on, the lowest first
unfoldable pub packed : (ℕ → Bool) → ℕ → ℕ → ℕ
packed test first zero = 0
packed test first (suc n) = bit (test first) + 2 * packed test (first + 1) n
