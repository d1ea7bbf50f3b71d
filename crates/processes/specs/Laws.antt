-- What is kept in a container, whatever its tasks do.
use Rattle.std.specs.Prelude.{ℕ, ◌≡◌, ◌==◌, ◌&&◌, Bool, true, false, IsTrue, List, [], ◌∷◌, ◌++◌, Option, None, Some, if◌then◌else◌}
use Rattle.std.specs.List.{list_any}
use Rattle.call_record.specs.declared.layout.Record.{Record}
use Rattle.machines.specs.declared.arch.Arch.{Arch}
use Rattle.processes.specs.declared.outcome.End.{End}
use Rattle.processes.specs.Attached.{Beside}
use Rattle.processes.specs.Calls.{row_of}
use Rattle.processes.specs.Kernel.{passes, presented, signalled, verdict_on}
use Rattle.processes.specs.Tasks.{Filter, Judge, Process, Processes, admitted, ended, is_in_group}
use Rattle.processes.specs.Tasks.{is_live, is_task, in_order, live_task, lives}
use Rattle.processes.specs.declared.row.Row.{Row}
use Rattle.processes.specs.declared.row.Row.TheVariants.{Execve}

-- each task of a list has a property
abbrev pub Each : (Process → Type 0) → List Process → Type 0
Each P [] = Unit {0}
Each P (t ∷ ts) = P t × Each P ts

abbrev pub HasEnded : Process → Type 0
HasEnded t = is_live t ≡ false

-- a list of filters with newer ones in front, or none
abbrev pub StandsBehind : List Filter → List Filter → Type 0
StandsBehind old fs = (newer : List Filter) × (fs ≡ newer ++ old)

abbrev pub KeepsBehind : List Filter → Process → Type 0
KeepsBehind old t = StandsBehind old t.filters

-- What is behind the filters of every task stays behind them, and a container begins with its first filter there. So
-- the oldest filter of each task is the container's first.
pub record FirstFilterStays : Type 0 where
  pub begin : (native : Arch) (judge : Judge) → Each (KeepsBehind (record { load = 0; judge = judge } ∷ [])) (admitted native judge).tasks
  pub event : (old : List Filter) (n : ℕ) (r : Record) (b : Beside) (ps : Processes) → Each (KeepsBehind old) ps.tasks
      → Each (KeepsBehind old) (presented n r b ps).1.tasks
  pub signal : (old : List Filter) (sig : ℕ) (ps : Processes) → Each (KeepsBehind old) ps.tasks
      → Each (KeepsBehind old) (signalled sig ps).tasks

-- tasks stand in the order of their numbers, of which none is above the count of tasks made
pub record NumbersAscend : Type 0 where
  pub begin : (native : Arch) (judge : Judge) → IsTrue (in_order (admitted native judge))
  pub event : (n : ℕ) (r : Record) (b : Beside) (ps : Processes) → IsTrue (in_order ps) → IsTrue (in_order (presented n r b ps).1)
  pub signal : (sig : ℕ) (ps : Processes) → IsTrue (in_order ps) → IsTrue (in_order (signalled sig ps))

-- a task of the group bears its number
abbrev pub is_led : ℕ → List Process → Bool
is_led g tasks = list_any (λ u. is_task g u && is_in_group g u) tasks

-- The task that bears the number of a group is there, and is of it: no other has this number where numbers ascend.
abbrev pub GroupsAreLed : List Process → Type 0
GroupsAreLed tasks = Each (λ t. IsTrue (is_led t.group tasks)) tasks

-- so a container begins, and so it stays
pub record GroupsStayLed : Type 0 where
  pub begin : (native : Arch) (judge : Judge) → GroupsAreLed (admitted native judge).tasks
  pub event : (n : ℕ) (r : Record) (b : Beside) (ps : Processes) → IsTrue (in_order ps)
      → GroupsAreLed ps.tasks → GroupsAreLed (presented n r b ps).1.tasks
  pub signal : (sig : ℕ) (ps : Processes) → GroupsAreLed ps.tasks → GroupsAreLed (signalled sig ps).tasks

-- where no task of group 1 lives, none does
abbrev pub NoneOutlives : Processes → Type 0
NoneOutlives ps = lives ps ≡ false → Each HasEnded ps.tasks

-- An end leaves it so, whatever was before it. A container begins so, and stays so. In an event that is an execve the
-- caller goes on in the place of the leader of its group. So it wants groups that are led.
pub record NoneOutlivesGroup1 : Type 0 where
  pub end : (test : Process → Bool) (e : End) (ps : Processes) → NoneOutlives (ended test e ps)
  pub begin : (native : Arch) (judge : Judge) → NoneOutlives (admitted native judge)
  pub event : (n : ℕ) (r : Record) (b : Beside) (ps : Processes) → IsTrue (in_order ps) → GroupsAreLed ps.tasks → NoneOutlives ps
      → NoneOutlives (presented n r b ps).1
  pub signal : (sig : ℕ) (ps : Processes) → NoneOutlives ps → NoneOutlives (signalled sig ps)

abbrev pub is_execve : Row → Bool
is_execve Execve = true
is_execve row = false

-- the task's filters let the call through, or a listener continues it, and it is an execve
abbrev pub executes : Record → Beside → Processes → Process → Bool
executes r b ps t = passes (verdict_on r t) r b t && is_execve (row_of ps.native r)

abbrev pub goes_on_by : Option Process → Record → Beside → ℕ → Processes → Option Process
goes_on_by None r b m ps = live_task m ps.tasks
goes_on_by (Some t) r b m ps = if executes r b ps t && (t.group == m) then Some t else live_task m ps.tasks

-- The live task that goes on under number m after task n presents a record. The caller of an execve goes on under its
-- group's number, and any other under its own.
abbrev pub goes_on : ℕ → Record → Beside → ℕ → Processes → Option Process
goes_on n r b m ps = goes_on_by (live_task n ps.tasks) r b m ps
