-- Where a script stands, after some of its lines.
use Rattle.std.specs.Prelude.{ℕ, ◌≡◌, ◌+◌, ◌<◌, ◌≤◌, ◌++◌, List, [], ◌∷◌, Option, length, take}
use Rattle.std.specs.Io.KnownBytes.{Appends, Consumes}
use Rattle.processes.specs.First.{by_program}
use Rattle.lifecycle.specs.Commands.{Command}
use Rattle.lifecycle.specs.Steps.{run}
use Rattle.lifecycle.specs.Worlds.{World}
use Rattle.session.specs.declared.bundles.Bundles.{Bundles}
use Rattle.session.specs.Answer.{answer_of, commands_of, counted}
use Rattle.session.specs.Commands.{CommandIs, CommandsAre}
use Rattle.session.specs.Wants.{WantsMemory}
use Rattle.session.specs.inner.Cuts.{IsCut, kept_of}

-- the world, what is kept of the line that is read, and how many lines were answered by how many bytes
pub record Standing : Type 0 where
  pub world : World
  pub kept : List ℕ
  pub count : ℕ
  pub out : ℕ

-- these lines were answered, and this is the part of a line behind them; what the sink held before, and holds
pub record Stands (bundles : Bundles) (s : Standing) (held held' : Option (List ℕ)) (lines : List (List ℕ)) (part : List ℕ)
    (commands : List (Option Command)) : Type 0 where
  pub are : CommandsAre bundles lines commands
  pub world : s.world ≡ (run by_program (commands_of commands) []).1
  pub kept : s.kept ≡ kept_of part
  pub count : s.count ≡ counted (length commands)
  pub out : s.out ≡ counted (length (answer_of by_program commands))
  pub written : Appends held held' (answer_of by_program commands)

-- one line more was answered
pub record GoesOn (bundles : Bundles) (s : Standing) (held held' : Option (List ℕ)) (lines : List (List ℕ)) (part : List ℕ)
    (commands : List (Option Command)) : Type 0 where
  pub command : Option Command
  pub stands : Stands bundles s held held' (lines ++ part ∷ []) [] (commands ++ command ∷ [])

-- of the answer to the line behind them a beginning was written, and of all answers so many bytes
pub record BreaksOff (bundles : Bundles) (held held' : Option (List ℕ)) (part : List ℕ) (commands : List (Option Command))
    (out : ℕ) : Type 0 where
  pub command : Option Command
  pub is : CommandIs bundles part command
  pub n : ℕ
  pub written : Appends held held' (take n (answer_of by_program (commands ++ command ∷ [])))
  pub behind : length (answer_of by_program commands) ≤ n
  pub short : n < length (answer_of by_program (commands ++ command ∷ []))
  pub told : out ≡ counted n

-- there was no memory for the line behind them
pub record RunsOut (bundles : Bundles) (held held' : Option (List ℕ)) (part : List ℕ) (commands : List (Option Command))
    (line : ℕ) : Type 0 where
  pub command : Option Command
  pub is : CommandIs bundles part command
  pub written : Appends held held' (answer_of by_program commands)
  pub told : line ≡ counted (length commands + 1)
  pub wants : WantsMemory command (run by_program (commands_of commands) []).1

-- a text came of the source, and its lines were answered
pub record HasCome (bundles : Bundles) (s : Standing) (left left' held held' : Option (List ℕ)) : Type 0 where
  pub text : List ℕ
  pub taken : Consumes left left' text
  pub lines : List (List ℕ)
  pub part : List ℕ
  pub cut : IsCut text lines part
  pub commands : List (Option Command)
  pub stands : Stands bundles s held held' lines part commands
