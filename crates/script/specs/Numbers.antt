-- Numbers of a script: decimal, or `0x` and hexadecimal with small letters, both without leading zeros; and bytes.
use Rattle.std.specs.Prelude.{ℕ, ◌≡◌, ◌+◌, ◌*◌, ◌^◌, ◌<◌, ◌⊎◌, true, List, [], ◌∷◌, ◌++◌, codes}
use Rattle.std.specs.Char.{digit_value}
use Rattle.texts.specs.Digits.{is_hexadecimal_digit}
use Rattle.texts.specs.Numbers.{IsDecimal, IsHexadecimal}

-- in hexadecimal, behind `0x`
pub record IsMarked (text : List ℕ) (n : ℕ) : Type 0 where
  pub ds : List ℕ
  pub marked : text ≡ codes "0x" ++ ds
  pub written : IsHexadecimal ds n

-- a number of 64 bits
abbrev pub IsNumber : List ℕ → ℕ → Type 0
IsNumber text n = (n < 2 ^ 64) × (IsDecimal text n ⊎ IsMarked text n)

-- two hexadecimal digits for each byte, the higher one first
abbrev pub AreBytes : List ℕ → List ℕ → Type 0
AreBytes [] [] = Unit {0}
AreBytes (high ∷ low ∷ ds) (b ∷ bytes) =
    (is_hexadecimal_digit high ≡ true) × (is_hexadecimal_digit low ≡ true) × (b ≡ 16 * digit_value high + digit_value low)
    × AreBytes ds bytes
AreBytes ds bytes = ⊥
