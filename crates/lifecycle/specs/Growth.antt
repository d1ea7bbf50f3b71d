-- What may be refused for want of memory.
use Rattle.std.specs.Prelude.{◌≡◌, ◌⊎◌, ℕ, List, None, Some, true, length, slice_get}
use Rattle.processes.specs.Ids.{is_id}
use Rattle.processes.specs.Kernel.{can_grow}
use Rattle.lifecycle.specs.declared.command.Status.{Status}
use Rattle.lifecycle.specs.declared.command.Status.TheVariants.{Created, Running}
use Rattle.lifecycle.specs.declared.command.Reply.{Reply}
use Rattle.lifecycle.specs.Commands.{Command}
use Rattle.lifecycle.specs.Commands.Command.{Create, Start, Kill, Delete, State, Call}
use Rattle.lifecycle.specs.Worlds.{Container, World, container_at}

-- there is a container of an id in this status, and this holds of it
pub record IsThere (id : List ℕ) (status : Status) (P : Container → Type 0) (w : World) : Type 0 where
  pub container : Container
  pub there : container_at id w ≡ Some container
  pub status_is : container.status ≡ status
  pub holds : P container

-- A command may want memory where it makes a container, starts one, or is a call in a running one for which its kernel may.
abbrev pub MayGrow : Command → World → Type 0
MayGrow (Create id given) w = (is_id id ≡ true) × (container_at id w ≡ None)
MayGrow (Start id) w = IsThere id Created (λ c. Unit {0}) w
MayGrow (Call id task r b) w = IsThere id Running (λ c. can_grow task r b c.processes ≡ true) w
MayGrow (Kill id sig) w = ⊥
MayGrow (Delete id) w = ⊥
MayGrow (State id) w = ⊥

-- the first command that is left undone may want memory, or there was none for the replies
abbrev pub NextMayGrow : List Command → List Reply → World → Type 0
NextMayGrow commands replies w =
    (length replies ≡ 0) ⊎ ((o : Command) × (slice_get commands (length replies) ≡ Some o) × MayGrow o w)
