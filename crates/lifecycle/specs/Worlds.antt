-- The containers that there are.
use Rattle.std.specs.Prelude.{ℕ, List, [], ◌∷◌, Option, None, Some, map, if◌then◌else◌}
use Rattle.machines.specs.declared.arch.Arch.{Arch}
use Rattle.cert_check.specs.declared.checked.Checked.{Checked}
use Rattle.processes.specs.Tasks.{Judge, Processes}
use Rattle.processes.specs.Views.{same_text}
use Rattle.lifecycle.specs.declared.command.Status.{Status}

-- a container, but for its id: its status, what its first filter answers, and its tasks
pub record Container : Type 0 where
  pub status : Status
  pub first : Judge
  pub processes : Processes

-- each id with its container, in order of creation
abbrev pub World : Type 0
World = List (List ℕ × Container)

-- which judge the first filter of a container is, by the checked filter that it was created with
abbrev pub First : Type 0
First = Checked → Judge

-- before it is started it has no tasks
abbrev pub unstarted : Arch → Processes
unstarted native = record { native = native; tasks = []; made = 0; loads = 0 }

abbrev pub ids_of : World → List (List ℕ)
ids_of w = map (λ e. e.0) w

-- the container with an id
abbrev pub container_at : List ℕ → World → Option Container
container_at id [] = None
container_at id (e ∷ w) = if same_text id e.0 then Some e.1 else container_at id w

-- with a container for an id, in the old one's place or last; or with none
abbrev pub put : List ℕ → Option Container → World → World
put id None [] = []
put id None (e ∷ w) = if same_text id e.0 then put id None w else e ∷ put id None w
put id (Some c) [] = (id, c) ∷ []
put id (Some c) (e ∷ w) = if same_text id e.0 then (e.0, c) ∷ w else e ∷ put id (Some c) w
