-- The containers, by what is kept of each and what the kernel has of it.
use Rattle.std.specs.Prelude.{◌≡◌, ℕ, Bool, true, false, cond, List, Option, None, Some, if◌then◌else◌, map}
use Rattle.std.specs.Map.{lookup}
use Rattle.processes.specs.Tasks.{Processes, lives}
use Rattle.processes.specs.First.{by_program}
use Rattle.processes.specs.Views.{Containers, same_text}
use Rattle.cert_check.specs.Checked.{profile_of}
use Rattle.lifecycle.specs.declared.command.Status.{Status}
use Rattle.lifecycle.specs.declared.command.Status.TheVariants.{Created, Running, Stopped}
use Rattle.lifecycle.specs.declared.entry.Entry.{Entry}
use Rattle.lifecycle.specs.declared.entry.Phase.{Phase}
use Rattle.lifecycle.specs.declared.entry.Phase.TheVariants.{Made, Started, Ended}
use Rattle.lifecycle.specs.Worlds.{Container, World, unstarted}

-- what is kept, by id, in order of creation
abbrev pub Entries : Type 0
Entries = List (List ℕ × Entry)

-- the entries that are found are those from before, but for one id
abbrev pub FindsAt : Entries → Entries → List ℕ → Option Entry → Type 0
FindsAt old new id x = (q : List ℕ) → lookup (same_text q) new ≡ cond (same_text id q) x (lookup (same_text q) old)

-- a container whose tasks the kernel does not have
abbrev pub idle : Status → Entry → Container
idle status e = record { status = status; first = by_program e.checked; processes = unstarted (profile_of e.checked).native }

-- one that was started: it runs while a task of group 1 lives
abbrev pub begun_from : Entry → Option Processes → Container
begun_from e None = idle Stopped e
begun_from e (Some ps) = record { status = if lives ps then Running else Stopped; first = by_program e.checked; processes = ps }

abbrev pub container_by : Phase → Entry → Option Processes → Container
container_by Made e ps = idle Created e
container_by Started e ps = begun_from e ps
container_by Ended e ps = idle Stopped e

abbrev pub container_of : Entry → Option Processes → Container
container_of e ps = container_by e.phase e ps

abbrev pub world_from : Containers → Entries → World
world_from kernel es = map (λ e. (e.0, container_of e.1 (kernel e.0))) es

abbrev pub is_started : Phase → Bool
is_started Made = false
is_started Started = true
is_started Ended = false

-- the entry is that of a container that was started
abbrev pub started_in : Option Entry → Bool
started_in None = false
started_in (Some e) = is_started e.phase

-- the container was started, and not deleted since
abbrev pub started_at : Entries → List ℕ → Bool
started_at es id = started_in (lookup (same_text id) es)
