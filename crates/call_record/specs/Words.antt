-- A call record as a filter sees it: sixteen words of 32 bits (seccomp(2), struct seccomp_data).
use Rattle.std.specs.Prelude.{◌≡◌, ℕ, ◌+◌, ◌*◌, ◌/◌, ◌%◌, ◌^◌, ◌<◌, List, [], ◌∷◌, All, length, slice_index}
use Rattle.byteorder.specs.Endian.{little_number}

-- sixteen words, each below 2^32
pub record IsRecord (r : List ℕ) : Type 0 where
  pub length_is : length r ≡ 16
  pub words : (i : ℕ) → slice_index r i < 2 ^ 32

-- the word at offset 4 * i
abbrev pub word : List ℕ → ℕ → ℕ
word r i = slice_index r i

-- an argument, of 64 bits: its low word, and its high word
abbrev pub argument : List ℕ → ℕ → ℕ
argument r j = word r (4 + 2 * j) + 2 ^ 32 * word r (5 + 2 * j)

-- each number of 64 bits as its low and its high word
abbrev pub halves : List ℕ → List ℕ
halves [] = []
halves (n ∷ ns) = n % 2 ^ 32 ∷ n / 2 ^ 32 ∷ halves ns

-- the words of these fields: the number of the call, the machine's token, the instruction pointer, the arguments
abbrev pub words_from : ℕ → ℕ → ℕ → List ℕ → List ℕ
words_from nr arch ip args = nr ∷ arch ∷ halves (ip ∷ args)

-- each field is a number of its width, and there are six arguments
pub record FieldsFit (nr arch ip : ℕ) (args : List ℕ) : Type 0 where
  pub nr_fits : nr < 2 ^ 32
  pub arch_fits : arch < 2 ^ 32
  pub ip_fits : ip < 2 ^ 64
  pub six_args : length args ≡ 6
  pub args_fit : All (λ u. u < 2 ^ 64) args

-- each four bytes are a word, the lowest byte first
abbrev pub words_of : List ℕ → List ℕ
words_of (a ∷ b ∷ c ∷ d ∷ bytes) = little_number 4 (a ∷ b ∷ c ∷ d ∷ []) ∷ words_of bytes
words_of bytes = []
