-- What one line does.
use Rattle.std.specs.Prelude.{ℕ, ◌≡◌, ◌≤◌, List, Option, None, Some, Result, Err, IfOk, OnErr, length}
use Rattle.std.specs.declared.alloc.AllocError.{AllocError}
use Rattle.texts.specs.Failures.{Failures}
use Rattle.texts.specs.Sink.{WritesMade}
use Rattle.texts.specs.declared.streams.fault.WriteFault.{WriteFault}
use Rattle.texts.specs.declared.streams.fault.WriteFault.TheVariants.{OutOfMemory}
use Rattle.processes.specs.First.{by_program}
use Rattle.processes.specs.declared.outcome.Response.{Response}
use Rattle.lifecycle.specs.declared.command.Reply.{Reply}
use Rattle.lifecycle.specs.Commands.{Command, id_of}
use Rattle.lifecycle.specs.Steps.{step}
use Rattle.lifecycle.specs.Worlds.{First, World}
use Rattle.script.specs.Commands as script
use Rattle.session.specs.declared.bundles.Bundles.{Bundles}
use Rattle.session.specs.Commands.{CommandIs, Means}
use Rattle.session.specs.Replies.{no_command_line, reply_line}
use Rattle.session.specs.Wants.{WantsMemory}

-- the program beside a call has at most half as many bytes as a line may have
abbrev pub FitsLine : Option (List ℕ) → Type 0
FitsLine None = Unit {0}
FitsLine (Some program) = length program ≤ 35000

abbrev pub Fits : script.Command → Type 0
Fits (script.Create id name) = Unit {0}
Fits (script.Start id) = Unit {0}
Fits (script.Delete id) = Unit {0}
Fits (script.State id) = Unit {0}
Fits (script.Kill id signal) = Unit {0}
Fits (script.Call id task arch nr args program) = FitsLine program

-- the id that a command of a script names
abbrev pub id_in : script.Command → List ℕ
id_in (script.Create id name) = id
id_in (script.Start id) = id
id_in (script.Delete id) = id
id_in (script.State id) = id
id_in (script.Kill id signal) = id
id_in (script.Call id task arch nr args program) = id

-- the program beside it
abbrev pub program_in : script.Command → Option (List ℕ)
program_in (script.Create id name) = None
program_in (script.Start id) = None
program_in (script.Delete id) = None
program_in (script.State id) = None
program_in (script.Kill id signal) = None
program_in (script.Call id task arch nr args program) = program

-- the line that is answered to the line of this number, and the world after it
abbrev pub answer_line : First → ℕ → Option Command → World → List ℕ
answer_line F number None w = no_command_line number
answer_line F number (Some c) w = reply_line (id_of c) (step F c w).0

abbrev pub world_after : First → Option Command → World → World
world_after F None w = w
world_after F (Some c) w = (step F c w).1

-- the reply to a command, or none to no command, and the world after it
abbrev pub Replies : Option Command → World → World → Option Reply → Type 0
Replies None w w' None = w' ≡ w
Replies (Some c) w w' (Some r) = (r, w') ≡ step by_program c w
Replies None w w' (Some r) = ⊥
Replies (Some c) w w' None = ⊥

-- what a command of a script means was carried out; without memory for it the world stays
pub record CarriesOut (bundles : Bundles) (asked : script.Command) (response : Option Response) (w w' : World)
    (result : Result (Option Reply) AllocError) : Type 0 where
  pub command : Option Command
  pub is : Means bundles asked response command
  pub done : IfOk result (λ r. Replies command w w' r)
  pub kept : OnErr result (w' ≡ w)
  pub wants : OnErr result (WantsMemory command w)

-- a line was carried out and answered, by so many bytes
pub record AnswersLine {S : Type 0} (held : S → Option (List ℕ)) (failures : S
    → Failures) (bundles : Bundles) (line : List ℕ) (number : ℕ) (w w' : World) (old new : S) (result : Result ℕ WriteFault) : Type 0 where
  pub command : Option Command
  pub is : CommandIs bundles line command
  pub written : WritesMade held failures old new (answer_line by_program number command w) result
  pub len : IfOk result (λ n. n ≡ length (answer_line by_program number command w))
  pub world : IfOk result (λ n. w' ≡ world_after by_program command w)
  pub wants : result ≡ Err OutOfMemory → WantsMemory command w
