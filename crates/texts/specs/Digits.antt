-- Digits of numbers.
use Rattle.std.specs.Prelude.{ℕ, ◌==◌, nat_le, nat_lt, Bool, false, ◌&&◌, ◌||◌, List, [], ◌∷◌, length, slice_index}
use Rattle.std.specs.List.{list_all}
use Rattle.std.specs.Char.{is_ascii_digit}

-- a digit of a number in hexadecimal: `0` to `9`, `a` to `f`
abbrev pub is_hexadecimal_digit : ℕ → Bool
is_hexadecimal_digit c = is_ascii_digit c || (nat_le 97 c && nat_le c 102)

-- digits, one of them at least
abbrev pub are_digits : (ℕ → Bool) → List ℕ → Bool
are_digits is_digit [] = false
are_digits is_digit (d ∷ ds) = list_all is_digit (d ∷ ds)

-- more digits than one, and the first is `0`
abbrev pub has_leading_zero : List ℕ → Bool
has_leading_zero ds = nat_lt 1 (length ds) && slice_index ds 0 == 48
