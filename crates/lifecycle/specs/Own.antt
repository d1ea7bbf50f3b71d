-- One container's own commands, and the replies to them.
use Rattle.std.specs.Prelude.{◌≡◌, ℕ, List, [], ◌∷◌, if◌then◌else◌}
use Rattle.processes.specs.Views.{same_text}
use Rattle.lifecycle.specs.declared.command.Reply.{Reply}
use Rattle.lifecycle.specs.Commands.{Command, id_of}
use Rattle.lifecycle.specs.Worlds.{World, First, container_at}
use Rattle.lifecycle.specs.Steps.{step}

-- the commands that name an id
abbrev pub own : List ℕ → List Command → List Command
own id [] = []
own id (o ∷ os) = if same_text id (id_of o) then o ∷ own id os else own id os

-- the replies to them, of the replies to all
abbrev pub own_replies : List ℕ → List Command → List Reply → List Reply
own_replies id (o ∷ os) (r ∷ rs) = if same_text id (id_of o) then r ∷ own_replies id os rs else own_replies id os rs
own_replies id os rs = []

-- Two worlds that agree on a container give the same reply to a command that names it, and agree on it afterwards. A
-- command that names another leaves it as it is.
pub record IsIsolated : Type 0 where
  pub reply : (F : First) (o : Command) (w v : World) → container_at (id_of o) w ≡ container_at (id_of o) v
      → (step F o w).0 ≡ (step F o v).0
  pub after : (F : First) (o : Command) (w v : World) → container_at (id_of o) w ≡ container_at (id_of o) v
      → container_at (id_of o) (step F o w).1 ≡ container_at (id_of o) (step F o v).1
  pub others : (F : First) (o : Command) (id : List ℕ) (w : World) → (id ≡ id_of o → ⊥)
      → container_at id (step F o w).1 ≡ container_at id w
