-- Numbers as they are written.
use Rattle.std.specs.Prelude.{ℕ, ◌≡◌, ◌^◌, nat_lt, Bool, true, false, if◌then◌else◌, List, Option, Some, None}
use Rattle.std.specs.Char.{is_ascii_digit}
use Rattle.std.specs.Str.Parse.{digits_value}
use Rattle.texts.specs.Digits.{are_digits, has_leading_zero, is_hexadecimal_digit}

-- digits of a number, one at least, and the first is no `0` unless it is the only one
pub record IsWritten (is_digit : ℕ → Bool) (radix : ℕ) (ds : List ℕ) (n : ℕ) : Type 0 where
  pub digits : are_digits is_digit ds ≡ true
  pub shortest : has_leading_zero ds ≡ false
  pub value : digits_value radix ds ≡ n

abbrev pub IsDecimal : List ℕ → ℕ → Type 0
IsDecimal text n = IsWritten is_ascii_digit 10 text n

-- in hexadecimal with small letters
abbrev pub IsHexadecimal : List ℕ → ℕ → Type 0
IsHexadecimal text n = IsWritten is_hexadecimal_digit 16 text n

-- the number that digits write, where it has no leading zero and 64 bits hold it
unfoldable pub number_of : ℕ → List ℕ → Option ℕ
number_of radix ds =
    if has_leading_zero ds then None
    else if nat_lt (digits_value radix ds) (2 ^ 64) then Some (digits_value radix ds) else None

-- the number of 64 bits that a text is in decimal, and in hexadecimal
unfoldable pub decimal_at : List ℕ → Option ℕ
decimal_at text = if are_digits is_ascii_digit text then number_of 10 text else None

unfoldable pub hexadecimal_at : List ℕ → Option ℕ
hexadecimal_at text = if are_digits is_hexadecimal_digit text then number_of 16 text else None
