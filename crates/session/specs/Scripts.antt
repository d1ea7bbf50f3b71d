-- What a run of a script has read and written.
use Rattle.std.specs.Prelude.{ℕ, ◌≡◌, ◌+◌, ◌<◌, ◌≤◌, ◌⊎◌, List, [], ◌∷◌, ◌++◌, length, take, Option, Result, Err}
use Rattle.std.specs.Io.KnownBytes.{Appends, Consumes, IsAtEnd}
use Rattle.texts.specs.Failures.{Failures, HasFailed, NoneFailed}
use Rattle.processes.specs.First.{by_profile}
use Rattle.lifecycle.specs.Commands.{Command}
use Rattle.script.specs.Lines.{Parts, lines_of}
use Rattle.session.specs.declared.bundles.Bundles.{Bundles}
use Rattle.session.specs.declared.fault.ScriptFault.{ScriptFault}
use Rattle.session.specs.declared.fault.ScriptFault.TheVariants.{Read, Write}
use Rattle.lifecycle.specs.Steps.{run}
use Rattle.session.specs.Answer.{answer_of, commands_of, counted}
use Rattle.session.specs.Commands.{CommandsAre}
use Rattle.session.specs.Wants.{WantsMemory}

-- which lines of a text are meant, by its parts between line feeds
abbrev pub Choice : Type 0
Choice = List ℕ → List (List ℕ) → List (List ℕ)

-- those that a line feed ends
abbrev pub ended_lines : Choice
ended_lines part [] = []
ended_lines part (next ∷ more) = part ∷ ended_lines next more

-- the source lost a text, and these lines of it are these commands
pub record HasRead (bundles : Bundles) (lines : Choice) (old new : Option (List ℕ)) (commands : List (Option Command)) : Type 0 where
  pub text : List ℕ
  pub taken : Consumes old new text
  pub first : List ℕ
  pub more : List (List ℕ)
  pub parts : Parts text first more
  pub each : CommandsAre bundles (lines first more) commands

-- all lines of the source
pub record HasReadAll (bundles : Bundles) (old new : Option (List ℕ)) (commands : List (Option Command)) : Type 0 where
  pub lines : HasRead bundles lines_of old new commands
  pub end : IsAtEnd new

-- lines that a line feed ends, or all lines of the source
abbrev pub HasReadWhole : Bundles → Option (List ℕ) → Option (List ℕ) → List (Option Command) → Type 0
HasReadWhole bundles old new commands = HasRead bundles ended_lines old new commands ⊎ HasReadAll bundles old new commands

-- The whole source was read, and its answer was written. Here and below: the bytes that are left in the source, before
-- and after. Then those that the sink holds, before and after. They stand there if they are known.
abbrev pub IsAnswered : Bundles → Option (List ℕ) → Option (List ℕ) → Option (List ℕ) → Option (List ℕ) → Type 0
IsAnswered bundles left left' held held' =
    (commands : List (Option Command)) × HasReadAll bundles left left' commands × Appends held held' (answer_of by_profile commands)

-- The answer of the lines that were ended was written; what stands behind the last line feed counts for nothing. It was
-- a part of this line, counted from 1.
abbrev pub StopsReading : Bundles → Option (List ℕ) → Option (List ℕ) → Option (List ℕ) → Option (List ℕ) → ℕ → Type 0
StopsReading bundles left left' held held' line =
    (commands : List (Option Command)) × HasRead bundles ended_lines left left' commands
    × Appends held held' (answer_of by_profile commands) × (line ≡ counted (length commands + 1))

-- Of the answer of the lines that were read, so many bytes were written, and more of them are left. All lines but the
-- last were answered whole, and none was read after it.
pub record StopsWriting (bundles : Bundles) (left left' held held' : Option (List ℕ)) (out : ℕ) : Type 0 where
  pub commands : List (Option Command)
  pub last : Option Command
  pub read : HasReadWhole bundles left left' (commands ++ last ∷ [])
  pub n : ℕ
  pub written : Appends held held' (take n (answer_of by_profile (commands ++ last ∷ [])))
  pub behind : length (answer_of by_profile commands) ≤ n
  pub short : n < length (answer_of by_profile (commands ++ last ∷ []))
  pub told : out ≡ counted n

-- The answer of the lines before this one was written, and none was read after it. It is a command that may want memory
-- in the world that they left.
pub record StopsForMemory (bundles : Bundles) (left left' held held' : Option (List ℕ)) (line : ℕ) : Type 0 where
  pub commands : List (Option Command)
  pub last : Option Command
  pub read : HasReadWhole bundles left left' (commands ++ last ∷ [])
  pub written : Appends held held' (answer_of by_profile commands)
  pub told : line ≡ counted (length commands + 1)
  pub wants : WantsMemory last (run by_profile (commands_of commands) []).1

-- By which calls of the source failed before and after: where a failed read is told just one did, the last; and else none.
abbrev pub TellsFailedRead : {T : Type 0} → Failures → Failures → Result T ScriptFault → Type 0
TellsFailedRead old new (Err (Read line)) = HasFailed old new
TellsFailedRead old new other = NoneFailed old new

-- By which calls of the sink failed before and after: where a failed write is told just one did, the last; and else none.
abbrev pub TellsFailedWrite : {T : Type 0} → Failures → Failures → Result T ScriptFault → Type 0
TellsFailedWrite old new (Err (Write out)) = HasFailed old new
TellsFailedWrite old new other = NoneFailed old new
