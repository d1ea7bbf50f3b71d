-- Which tasks the code means, and what it gives them.
use Rattle.std.specs.Prelude.{ℕ, ◌&&◌, Bool, true, not, if◌then◌else◌, List, [], Option, map}
use Rattle.processes.specs.declared.task.Task.{Task}
use Rattle.processes.specs.declared.tasks.Which.{Which}
use Rattle.processes.specs.declared.tasks.Which.TheVariants as which
use Rattle.processes.specs.Kept.{process_of}
use Rattle.processes.specs.Tasks.{Filter, Process, is_live, is_task, is_in_group}

-- a task without its filters
abbrev pub bare_of : {H : Type 0} → Task H → Process
bare_of t = process_of (λ f. []) t

-- which tasks are meant
abbrev pub is_meant : Which → Process → Bool
is_meant (which.One n) t = is_task n t
is_meant (which.Group g) t = is_in_group g t
is_meant (which.Siblings g n) t = is_in_group g t && not (is_task n t)
is_meant which.All t = true

-- the live tasks that are meant
abbrev pub is_taker : Which → Process → Bool
is_taker w t = is_meant w t && is_live t

-- these filters, and which of them has a listener, for the tasks that meet a test
abbrev pub given : (Process → Bool) → Option ℕ → List Filter → List Process → List Process
given test listener filters tasks = map (λ u. if test u then record u { filters = filters; listener = listener } else u) tasks
