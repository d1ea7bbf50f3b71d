-- Numbers mean themselves.
use Rattle.std.specs.Prelude.{ℕ, ◌≡◌, List, Some}
use Rattle.call_words.specs.Constants.{numeral}
use Rattle.call_words.specs.Numbers.{number_of}

-- a word that is a number stands for itself, whatever constants there are
abbrev pub NumbersStay : Type 0
NumbersStay = (word : List ℕ) (n : ℕ) → number_of word ≡ Some n → numeral word ≡ word
