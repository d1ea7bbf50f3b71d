-- Numbers among the words of a command line.
use Rattle.std.specs.Prelude.{ℕ, List, Option, Some, None, codes}
use Rattle.texts.specs.Numbers.{decimal_at, hexadecimal_at}
use Rattle.texts.specs.Splits.{behind}

-- what follows `0x` is hexadecimal
abbrev pub number_behind : Option (List ℕ) → List ℕ → Option ℕ
number_behind (Some digits) word = hexadecimal_at digits
number_behind None word = decimal_at word

-- the number of 64 bits that a word is: decimal, or hexadecimal behind `0x`
unfoldable pub number_of : List ℕ → Option ℕ
number_of word = number_behind (behind (codes "0x") word) word
