-- What a request and its program say.
use Rattle.std.specs.Prelude.{ℕ, List}
use Rattle.std.specs.Option.{option_map}
use Rattle.script.specs.declared.digits.Hex.{Hex}
use Rattle.script.specs.declared.request.Request.{Request}
use Rattle.script.specs.declared.request.Request.TheVariants as requests
use Rattle.script.specs.Commands.{Command, Create, Start, Delete, State, Kill, Call}
use Rattle.script.specs.Pairs.{spelled_bytes}

unfoldable pub bytes_of : Hex → List ℕ
bytes_of hex = spelled_bytes hex.text.now

-- the command, without where its texts lie
abbrev pub command_of : Request → Command
command_of (requests.Create id bundle) = Create id.now bundle.now
command_of (requests.Start id) = Start id.now
command_of (requests.Delete id) = Delete id.now
command_of (requests.State id) = State id.now
command_of (requests.Kill id signal) = Kill id.now signal
command_of (requests.Call id task arch nr args program) = Call id.now task arch nr args (option_map bytes_of program)
