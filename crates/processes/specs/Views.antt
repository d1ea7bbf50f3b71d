-- The kernel of all containers, as contracts see it.
use Rattle.std.specs.Prelude.{◌≡◌, ℕ, Bool, false, List, length, Option, Some, None, if◌then◌else◌, find, nat_eq}
use Rattle.std.specs.Option.{option_map}
use Rattle.std.specs.Cmp.Lexicographic.{pointwise}
use Rattle.call_record.specs.declared.layout.Record.{Record}
use Rattle.processes.specs.declared.outcome.Outcome.{Outcome}
use Rattle.processes.specs.declared.outcome.Outcome.TheVariants.{NoTask}
use Rattle.processes.specs.declared.outcome.TaskView.{TaskView}
use Rattle.processes.specs.Tasks.{Process, Processes, is_task, lives}
use Rattle.processes.specs.Kernel.{presented, can_grow}
use Rattle.processes.specs.Attached.{Beside}

-- the same text
abbrev pub same_text : List ℕ → List ℕ → Bool
same_text a b = pointwise nat_eq a b

-- what the kernel has of each container that is admitted, by its id
abbrev pub Containers : Type 0
Containers = List ℕ → Option Processes

-- what the kernel has after a call is what it had before, but for one id
abbrev pub SetAt : Containers → Containers → List ℕ → Option Processes → Type 0
SetAt old new id value = (q : List ℕ) → new q ≡ (if same_text id q then value else old q)

-- nothing has changed
abbrev pub Same : Containers → Containers → Type 0
Same old new = (q : List ℕ) → new q ≡ old q

-- an event of a container that may not be admitted
abbrev pub present_in : ℕ → Record → Beside → Option Processes → Outcome × Option Processes
present_in n r b None = (NoTask, None)
present_in n r b (Some ps) = let p = presented n r b ps in (p.0, Some p.1)

abbrev pub can_grow_in : ℕ → Record → Beside → Option Processes → Bool
can_grow_in n r b None = false
can_grow_in n r b (Some ps) = can_grow n r b ps

-- a task of group 1 lives in it
abbrev pub lives_in : Option Processes → Bool
lives_in None = false
lives_in (Some ps) = lives ps

-- what is shown of a task, live or ended
abbrev pub shown : Process → TaskView
shown t = record { group = t.group; parent = t.parent; images = t.images; filters = length t.filters; end = t.end }

abbrev pub view_of_task : ℕ → Processes → Option TaskView
view_of_task n ps = option_map shown (find (is_task n) ps.tasks)
