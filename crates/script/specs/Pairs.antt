-- Bytes read from hexadecimal digits.
use Rattle.std.specs.Prelude.{ℕ, ◌+◌, ◌*◌, ◌%◌, ◌==◌, Bool, ◌&&◌, List, [], ◌∷◌, length}
use Rattle.std.specs.Char.{digit_value}
use Rattle.texts.specs.Digits.{are_digits, is_hexadecimal_digit}

-- digits in pairs, one pair at least
unfoldable pub is_paired : List ℕ → Bool
is_paired ds = (length ds % 2 == 0) && are_digits is_hexadecimal_digit ds

-- the bytes that pairs of digits spell
abbrev pub spelled_bytes : List ℕ → List ℕ
spelled_bytes (high ∷ low ∷ ds) = (16 * digit_value high + digit_value low) ∷ spelled_bytes ds
spelled_bytes ds = []
