-- What a runtime can be told, without where the texts of a command lie in memory.
use Rattle.std.specs.Prelude.{ℕ, List}
use Rattle.std.specs.Option.{option_map}
use Rattle.call_record.specs.declared.layout.Record.{Record}
use Rattle.cert_check.specs.declared.checked.Checked.{Checked}
use Rattle.processes.specs.Attached.{Beside, beside_of}
use Rattle.lifecycle.specs.declared.command.Command as code
use Rattle.lifecycle.specs.declared.command.Command.TheVariants as variant

pub data Command : Type 0 where
  Create : (id : List ℕ) → (given : Checked) → Command
  Start : (id : List ℕ) → Command
  Kill : (id : List ℕ) → (sig : ℕ) → Command
  Delete : (id : List ℕ) → Command
  State : (id : List ℕ) → Command
  -- a task of this number presents a record, and may attach a program to it; a listener that is told of it may respond
  Call : (id : List ℕ) → (task : ℕ) → (r : Record) → (b : Beside) → Command

abbrev pub command_of : code.Command → Command
command_of (variant.Create id given) = Create id.now given
command_of (variant.Start id) = Start id.now
command_of (variant.Kill id sig) = Kill id.now sig
command_of (variant.Delete id) = Delete id.now
command_of (variant.State id) = State id.now
command_of (variant.Call id task r attached response) = Call id.now task r (beside_of (option_map (λ a. a.now) attached) response)

-- the id that it names
abbrev pub id_of : Command → List ℕ
id_of (Create id given) = id
id_of (Start id) = id
id_of (Kill id sig) = id
id_of (Delete id) = id
id_of (State id) = id
id_of (Call id task r b) = id
