-- What is promised of a whole run.
use Rattle.std.specs.Prelude.{◌≡◌, ℕ, List, map}
use Rattle.lifecycle.specs.declared.command.Command as code
use Rattle.lifecycle.specs.declared.command.Reply.{Reply}
use Rattle.lifecycle.specs.Commands.{Command, command_of}
use Rattle.lifecycle.specs.Own.{own, own_replies}
use Rattle.lifecycle.specs.Steps.{run}
use Rattle.lifecycle.specs.Worlds.{First, World}

abbrev pub commands_of : List code.Command → List Command
commands_of commands = map command_of commands

-- the replies, and the world after them, are those of a run of the commands from the world before them
abbrev pub IsRun : First → List Command → World → List Reply → World → Type 0
IsRun F commands old replies new = run F commands old ≡ (replies, new)

-- the replies to each container's own commands are those of a run of these commands alone
abbrev pub EachRunsAlone : First → List Command → World → List Reply → Type 0
EachRunsAlone F commands old replies = (id : List ℕ) → own_replies id commands replies ≡ (run F (own id commands) old).0
