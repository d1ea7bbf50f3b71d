-- The lines of a text, and the commands that they are.
use Rattle.std.specs.Prelude.{ℕ, ◌≡◌, true, List, [], ◌∷◌, Option}
use Rattle.std.specs.List.{join_with_byte, list_all}
use Rattle.texts.specs.Lines.{line_feed}
use Rattle.machines.specs.declared.arch.Arch.{Arch}
use Rattle.script.specs.Commands.{Command}
use Rattle.script.specs.Grammar.{LineIs, lacks}

-- the parts of a text between its line feeds, one at least
pub record Parts (text : List ℕ) (first : List ℕ) (more : List (List ℕ)) : Type 0 where
  pub joined : text ≡ join_with_byte line_feed (first ∷ more)
  pub each : list_all (lacks line_feed) (first ∷ more) ≡ true

-- a part is a line; what stands behind the last line feed counts if it is not empty
abbrev pub lines_of : List ℕ → List (List ℕ) → List (List ℕ)
lines_of [] [] = []
lines_of (b ∷ part) [] = (b ∷ part) ∷ []
lines_of part (next ∷ more) = part ∷ lines_of next more

-- each line is what stands beside it
abbrev pub LinesAre : Arch → List (List ℕ) → List (Option Command) → Type 0
LinesAre native [] [] = Unit {0}
LinesAre native (line ∷ lines) (command ∷ commands) = LineIs native line command × LinesAre native lines commands
LinesAre native lines commands = ⊥

-- the text is these lines, each with its command or with none
pub record Reads (native : Arch) (text : List ℕ) (commands : List (Option Command)) : Type 0 where
  pub first : List ℕ
  pub more : List (List ℕ)
  pub parts : Parts text first more
  pub lines : LinesAre native (lines_of first more) commands
