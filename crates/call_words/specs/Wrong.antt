-- What is wrong with words that ask for no call.
use Rattle.std.specs.Prelude.{ℕ, ◌≡◌, nat_lt, not, Bool, true, false, if◌then◌else◌, List, [], ◌∷◌, ◌++◌, length, is_some}
use Rattle.std.specs.Prelude.{Option, Some, None, find, codes}
use denote.Ref.{Bor}
use Rattle.texts.specs.Lines.{line_feed}
use Rattle.machines.specs.declared.arch.Arch.{Arch}
use Rattle.machines.specs.Arch.{machine_name}
use Rattle.call_tables.specs.Tables.{table_of}
use Rattle.call_tables.specs.Table.{name_in}
use Rattle.call_words.specs.Calls.{is_call}
use Rattle.call_words.specs.Constants.{argument_of}
use Rattle.call_words.specs.Near.{Least, hint}

-- the numbers of native calls are below this one
abbrev pub native_numbers : ℕ
native_numbers = 512

-- how a line begins that says that a word is no call
abbrev pub is_no_call : List ℕ → List ℕ
is_no_call word = line_feed ∷ word ++ codes " is no call of "

-- the whole line, with the names of native calls that are so many edits away, if that is near
abbrev pub no_call : Arch → List ℕ → ℕ → List ℕ
no_call native word edits = is_no_call word ++ machine_name native ++ hint (name_in (table_of native)) native_numbers word edits

-- the line says it, with the names that are nearest
pub record TellsNoCall (native : Arch) (word line : List ℕ) : Type 0 where
  pub edits : ℕ
  pub least : Least (name_in (table_of native)) native_numbers word edits
  pub told : line ≡ no_call native word edits

-- a line that says that an argument is no number
abbrev pub no_number : List ℕ → List ℕ
no_number word = line_feed ∷ word ++ codes " is no number"

-- a line that says that there are more arguments than a call has
abbrev pub too_many : List ℕ
too_many = line_feed ∷ codes "a call has 6 arguments at most"

-- neither a number nor names of constants
abbrev pub is_no_number : List ℕ → Bool
is_no_number word = not (is_some (argument_of word))

-- what is wrong with arguments of which one is no number, or none
abbrev pub wrong_arguments : Option (Bor (List ℕ)) → List (Bor (List ℕ)) → List ℕ
wrong_arguments (Some word) arguments = no_number word.now
wrong_arguments None arguments = if nat_lt 6 (length arguments) then too_many else []

abbrev pub tells_of : Bool → Arch → List ℕ → List (Bor (List ℕ)) → List ℕ → Type 0
tells_of true native word arguments line = line ≡ wrong_arguments (find (λ a. is_no_number a.now) arguments) arguments
tells_of false native word arguments line = TellsNoCall native word line

-- The line says what is wrong with a word and arguments: the word is no call, or the first argument that is no number is told, or
-- there are too many. With words that are right nothing is.
abbrev pub TellsWrongCall : Arch → List ℕ → List (Bor (List ℕ)) → List ℕ → Type 0
TellsWrongCall native word arguments line = tells_of (is_call native word) native word arguments line

abbrev pub TellsWrong : Arch → List (Bor (List ℕ)) → List ℕ → Type 0
TellsWrong native [] line = line ≡ []
TellsWrong native (word ∷ arguments) line = TellsWrongCall native word.now arguments line
