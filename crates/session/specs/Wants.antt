-- Which line may be refused for want of memory.
use Rattle.std.specs.Prelude.{◌≡◌, ◌⊎◌, Option, None, Some}
use Rattle.lifecycle.specs.Commands.{Command}
use Rattle.lifecycle.specs.Commands.Command.{Create, Start, Kill, Delete, State, Call}
use Rattle.lifecycle.specs.Growth.{MayGrow}
use Rattle.lifecycle.specs.Worlds.{Container, World, container_at}

-- it asks for the state of a container that is there, of which a text is made
abbrev pub TellsState : Command → World → Type 0
TellsState (Create id given) w = ⊥
TellsState (Start id) w = ⊥
TellsState (Kill id sig) w = ⊥
TellsState (Delete id) w = ⊥
TellsState (State id) w = (c : Container) × (container_at id w ≡ Some c)
TellsState (Call id task r a) w = ⊥

-- A line may want memory where it is a command for which containers may grow, or that tells a state.
abbrev pub WantsMemory : Option Command → World → Type 0
WantsMemory None w = ⊥
WantsMemory (Some c) w = MayGrow c w ⊎ TellsState c w
