-- A line and a text mean one thing.
use Rattle.std.specs.Prelude.{ℕ, ◌≡◌, List, Option}
use Rattle.machines.specs.declared.arch.Arch.{Arch}
use Rattle.script.specs.Commands.{Command}
use Rattle.script.specs.Grammar.{LineIs}
use Rattle.script.specs.Lines.{Reads}

-- a line is one command at most, and none where it is not one
abbrev pub OneCommand : Type 0
OneCommand = (native : Arch) (line : List ℕ) (a b : Option Command) → LineIs native line a → LineIs native line b → a ≡ b

-- a text is one list of commands
abbrev pub OneReading : Type 0
OneReading = (native : Arch) (text : List ℕ) (a b : List (Option Command)) → Reads native text a → Reads native text b → a ≡ b
