-- Command lines: the arguments that are a command by the table.
use Rattle.std.specs.Prelude.{Any, Bool, true, false, ℕ, ◌≡◌, ◌⊎◌, ◌&&◌, nat_le, List, [], ◌∷◌, length, map, find, slice_get}
use Rattle.std.specs.Prelude.{Option, Some, None}
use Rattle.std.specs.Prelude.{if◌then◌else◌, option_and_then, Result, Ok, Err}
use Rattle.std.specs.List.{list_all, list_any, zip}
use Rattle.std.specs.Str.{bytes_eq}
use denote.Ref.{Bor}
use Rattle.command_line.specs.Table.{Row, Text, rows, words_of}
use Rattle.command_line.specs.declared.meanings.Meaning.{Meaning}
use Rattle.command_line.specs.declared.prose.Command.{Command}
use Rattle.command_line.specs.declared.prose.Command.TheVariants.{Verdict, Check, Export, Run}
use Rattle.command_line.specs.declared.reading.CommandLine.{CommandLine}
use Rattle.command_line.specs.declared.reading.Misuse.{Misuse}
use Rattle.command_line.specs.declared.reading.Misuse.TheVariants as misuse

abbrev pub hyphen : ℕ
hyphen = 45

-- the argument begins with a hyphen
abbrev pub IsDashed : Text → Type 0
IsDashed argument = slice_get argument 0 ≡ Some hyphen

-- arguments, without where they lie in memory
abbrev pub texts : List (Bor Text) → List Text
texts arguments = map (λ a. a.now) arguments

-- a command, with the arguments that stand for its parts
abbrev pub Given : Type 0
Given = Command × List Text

abbrev pub given : CommandLine → Given
given line = (line.command, texts line.parts.now)

-- the row of that name
abbrev pub row_called : Text → List Row → Option Row
row_called name rows = find (λ (row : Row). bytes_eq row.name name) rows

-- the word is one of these, if any is named
abbrev pub is_among : List Text → Text → Bool
is_among [] word = true
is_among (one ∷ others) word = list_any (λ w. bytes_eq w word) (one ∷ others)

-- the argument may stand for the part
abbrev pub is_word : Meaning × Text → Bool
is_word part = is_among (words_of part.0) part.1

-- the row takes these arguments: they are as many as it says, and each may stand for its part
abbrev pub takes : Row → List Text → Bool
takes row words =
    (nat_le row.least (length words) && nat_le (length words) row.most) && list_all is_word (zip row.parts words)

abbrev pub given_by : Row → List Text → Option Given
given_by row words = if takes row words then Some (row.command, words) else None

abbrev pub command_called : Text → List Text → Option Given
command_called name words = option_and_then (λ row. given_by row words) (row_called name rows)

-- the command that these arguments are: its name, and behind it arguments that its row takes
abbrev pub command_of : List Text → Option Given
command_of [] = None
command_of (name ∷ words) = command_called name words

-- The arguments are this command, and none of them begins with a hyphen.
pub record IsCommandLine (arguments : List (Bor Text)) (given : Given) : Type 0 where
  pub command : command_of (texts arguments) ≡ Some given
  pub plain : Any (λ a. IsDashed a.now) arguments → ⊥

-- they are none: they are no command, or one of them begins with a hyphen
abbrev pub NoCommandLine : List (Bor Text) → Type 0
NoCommandLine arguments = (command_of (texts arguments) ≡ None) ⊎ Any (λ a. IsDashed a.now) arguments

-- the command is read, or memory is refused
abbrev pub Reads : Given → Result CommandLine Misuse → Type 0
Reads g (Ok line) = given line ≡ g
Reads g (Err misuse.OutOfMemory) = Unit {0}
Reads g (Err misuse.Usage) = ⊥

-- the four first commands are as they were; the others are ours
abbrev pub is_ours : Command → Bool
is_ours Verdict = false
is_ours Check = false
is_ours Export = false
is_ours Run = false
is_ours other = true

abbrev pub IsRowOfOurs : Option Row → Type 0
IsRowOfOurs (Some row) = is_ours row.command ≡ true
IsRowOfOurs None = ⊥

-- the first argument is the name of a command of our own
abbrev pub IsOurs : List Text → Type 0
IsOurs [] = ⊥
IsOurs (name ∷ words) = IsRowOfOurs (row_called name rows)
