-- Names of constants among the words of a command line, and the numbers that arguments are.
use Rattle.std.specs.Prelude.{ℕ, ◌==◌, if◌then◌else◌, Bool, false, List, [], ◌∷◌, ◌++◌, map, bit_or, Option, Some, None, option_and_then}
use Rattle.std.specs.Char.{is_ascii_digit}
use Rattle.std.specs.Fmt.{decimal}
use Rattle.std.specs.List.{slice_split}
use Rattle.std.specs.Option.{option_or}
use Rattle.call_tables.specs.Table.{number_in}
use Rattle.call_words.specs.Numbers.{number_of}
use Rattle.call_words.specs.declared.constants.TheConstants.{ADVICE, CLONING, FAMILIES, IOCTL, MAPPINGS, OPENING}
use Rattle.call_words.specs.declared.constants.TheConstants.{PERSONALITIES, PRCTL, PROTECTIONS, SOCKET_TYPES, TRACING}

-- the tables of the kernel's headers: each constant with its number
unfoldable pub families : List (List ℕ × ℕ)
families = map (λ e. (e.0.now, e.1)) FAMILIES.now

unfoldable pub socket_types : List (List ℕ × ℕ)
socket_types = map (λ e. (e.0.now, e.1)) SOCKET_TYPES.now

unfoldable pub cloning : List (List ℕ × ℕ)
cloning = map (λ e. (e.0.now, e.1)) CLONING.now

unfoldable pub personalities : List (List ℕ × ℕ)
personalities = map (λ e. (e.0.now, e.1)) PERSONALITIES.now

unfoldable pub prctl : List (List ℕ × ℕ)
prctl = map (λ e. (e.0.now, e.1)) PRCTL.now

unfoldable pub ioctl : List (List ℕ × ℕ)
ioctl = map (λ e. (e.0.now, e.1)) IOCTL.now

unfoldable pub protections : List (List ℕ × ℕ)
protections = map (λ e. (e.0.now, e.1)) PROTECTIONS.now

unfoldable pub mappings : List (List ℕ × ℕ)
mappings = map (λ e. (e.0.now, e.1)) MAPPINGS.now

unfoldable pub advice : List (List ℕ × ℕ)
advice = map (λ e. (e.0.now, e.1)) ADVICE.now

unfoldable pub opening : List (List ℕ × ℕ)
opening = map (λ e. (e.0.now, e.1)) OPENING.now

unfoldable pub tracing : List (List ℕ × ℕ)
tracing = map (λ e. (e.0.now, e.1)) TRACING.now

-- the number of a constant, by the first table that has it
unfoldable pub constant_of : List ℕ → Option ℕ
constant_of name =
    number_in (families ++ socket_types ++ cloning ++ personalities ++ prctl ++ ioctl ++ protections ++ mappings ++ advice ++ opening
    ++ tracing) name

abbrev pub bar : ℕ
bar = 124

-- what stands between the bars of a word
abbrev pub names_in : List ℕ → List (List ℕ)
names_in word = slice_split (λ b. b == bar) word

-- the bits of the constants of these names, beside those before; none if one is no constant
abbrev pub bits_with : ℕ → List (List ℕ) → Option ℕ
bits_with bits [] = Some bits
bits_with bits (name ∷ names) = option_and_then (λ n. bits_with (bit_or bits n) names) (constant_of name)

-- a number begins with a digit, and no name of a constant does
abbrev pub begins_with_digit : List ℕ → Bool
begins_with_digit [] = false
begins_with_digit (b ∷ word) = is_ascii_digit b

-- the number of a word that is a constant's name, or several with bars between them: all their bits
unfoldable pub sum_of : List ℕ → Option ℕ
sum_of word = if begins_with_digit word then None else bits_with 0 (names_in word)

abbrev pub number_or : Option ℕ → List ℕ → List ℕ
number_or (Some n) word = decimal n
number_or None word = word

-- a word, but the number in decimal in place of names
abbrev pub numeral : List ℕ → List ℕ
numeral word = number_or (sum_of word) word

-- the number that an argument is, or that its names are
abbrev pub argument_of : List ℕ → Option ℕ
argument_of word = option_or (number_of word) (sum_of word)
