-- The text of a verdict.
use Rattle.std.specs.Prelude.{ℕ, zero, suc, ◌/◌, ◌%◌, ◌^◌, List, [], ◌∷◌, ◌++◌, codes}
use Rattle.std.specs.Char.{digit_char}

-- the lowest n hexadecimal digits of a number, in lower case, the highest first
abbrev pub hexadecimal : ℕ → ℕ → List ℕ
hexadecimal zero v = []
hexadecimal (suc n) v = digit_char (v / 16 ^ n % 16) ∷ hexadecimal n v

-- `0x` and eight digits
abbrev pub text_of : ℕ → List ℕ
text_of v = codes "0x" ++ hexadecimal 8 v
