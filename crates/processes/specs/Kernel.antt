-- The modelled kernel of one container: what each call of a task does, what a verdict ends, and what a
-- signal from outside does.
use Rattle.std.specs.Prelude.{ℕ, ◌+◌, ◌-◌, ◌^◌, ◌==◌, ◌&&◌, ◌||◌, Bool, true, false, not, List, [], ◌∷◌, ◌++◌, Option, Some, None}
use Rattle.std.specs.Prelude.{if◌then◌else◌, nat_lt, nat_le, nat_eq, map, filter, find, drop, length, sum_by, min, bit_and, is_none}
use Rattle.std.specs.Prelude.{is_some}
use Rattle.std.specs.Cmp.Lexicographic.{pointwise}
use Rattle.call_record.specs.declared.layout.Record.{Record}
use Rattle.call_record.specs.declared.effect.Ends.{Ends}
use Rattle.call_record.specs.declared.effect.Ends.TheVariants.{Nothing, Task, Group}
use Rattle.call_record.specs.Ends.{ends_of}
use Rattle.call_record.specs.Verdict.{action, is_through, strictest_of, user_notif}
use Rattle.bpf_insn.specs.declared.instruction.Insn.{Insn}
use Rattle.processes.specs.declared.outcome.End.TheVariants as end
use Rattle.processes.specs.declared.outcome.Outcome.{Outcome}
use Rattle.processes.specs.declared.outcome.Outcome.TheVariants.{Done, Failed, Absent, Denied, Answered, Declined, NoTask}
use Rattle.processes.specs.declared.outcome.Response.{Response}
use Rattle.processes.specs.declared.outcome.Response.TheVariants.{Value, Error, Continue}
use Rattle.processes.specs.Calls.{arg}
use Rattle.processes.specs.declared.row.Loading.{Loading}
use Rattle.processes.specs.declared.row.Row.{Row}
use Rattle.processes.specs.declared.row.Row.TheVariants.{NewTask, NewThread, Execve, Exit, ExitGroup, Kill, GetPid, GetTid}
use Rattle.processes.specs.declared.row.Row.TheVariants.{GetParent, Load, NoLoad, Plain, Missing}
use Rattle.processes.specs.Calls as calls
use Rattle.processes.specs.Attached.{Attached, Beside, is_taken}
use Rattle.processes.specs.Attached.Attached.{NoBytes, Refused, Taken}
use Rattle.processes.specs.Stores.{notifier}
use Rattle.processes.specs.Tasks.{program_judge, Process, Processes, is_live, is_task, is_in_group, live_task, group_lives}
use Rattle.processes.specs.Tasks.{end_where, with_tasks, ended}

-- what an event leads to: an answer, and the container's tasks after it
abbrev pub Answer : Type 0
Answer = Outcome × Processes

-- errors by their numbers (errno.h)
abbrev pub esrch : ℕ
esrch = 3

abbrev pub eagain : ℕ
eagain = 11

abbrev pub enomem : ℕ
enomem = 12

abbrev pub efault : ℕ
efault = 14

abbrev pub ebusy : ℕ
ebusy = 16

abbrev pub einval : ℕ
einval = 22

-- New tasks.

-- the next number, with the caller's filters and their listener
abbrev pub child : ℕ → ℕ → ℕ → Process → Process
child number group parent t =
    record {
      number = number;
      group = group;
      parent = parent;
      images = 0;
      end = None;
      filters = t.filters;
      listener = t.listener;
    }

-- a child of fork leads a group of its own, and its parent is the caller's group
abbrev pub forked : Process → ℕ → Process
forked t number = child number number t.group t

-- a thread is of the caller's group and has the caller's parent
abbrev pub cloned : Process → ℕ → Process
cloned t number = child number t.group t.parent t

-- the new task gets the next number
abbrev pub with_next : (ℕ → Process) → Processes → Answer
with_next make ps =
    (Done (ps.made + 1), record ps { made = ps.made + 1; tasks = ps.tasks ++ make (ps.made + 1) ∷ [] })

-- fewer than 1024 were made
abbrev pub has_room : Processes → Bool
has_room ps = nat_lt ps.made 1024

abbrev pub with_new : (ℕ → Process) → Processes → Answer
with_new make ps = if has_room ps then with_next make ps else (Failed eagain, ps)

-- A new image. The other tasks of the group end by signal 9, and the caller goes on as the task that has the group's
-- number.

abbrev pub is_sibling : Process → Process → Bool
is_sibling t u = is_in_group t.group u && not (is_task t.number u)

abbrev pub renewed : Process → Process
renewed t = record t { number = t.group; images = min (t.images + 1) (2 ^ 64 - 1) }

-- The caller's entry replaces the one with the group's number. Its own number, if it is another, has none.
abbrev pub take_over : Process → List Process → List Process
take_over t tasks =
    map (λ u. if is_task t.group u then renewed t else u)
    (filter (λ u. is_task t.group u || not (is_task t.number u)) tasks)

abbrev pub executed : Process → List Process → List Process
executed t tasks = take_over t (end_where (is_sibling t) (end.Signal 9) tasks)

-- Signals.

-- signals that end their target: SIGKILL and SIGTERM
abbrev pub is_fatal : ℕ → Bool
is_fatal sig = (sig == 9) || (sig == 15)

-- a signal to a group from a task: group 1 is never ended from inside
abbrev pub killed : ℕ → ℕ → Processes → Answer
killed target sig ps =
    if nat_lt 64 sig then (Failed einval, ps)
    else if not (group_lives target ps.tasks) then (Failed esrch, ps)
    else if (target == 1) || not (is_fatal sig) then (Done 0, ps)
    else (Done 0, ended (is_in_group target) (end.Signal sig) ps)

-- a signal from outside to group 1
abbrev pub signalled : ℕ → Processes → Processes
signalled sig ps = if is_fatal sig then ended (is_in_group 1) (end.Signal sig) ps else ps

-- A further filter.

-- a program's length, and that of each old filter with 4 more, counted in instructions
abbrev pub load_size : List Insn → Process → ℕ
load_size program t = length program + sum_by (λ f. f.judge.count + 4) t.filters

abbrev pub loads_of : Process → List ℕ
loads_of t = map (λ f. f.load) t.filters

-- the older list is what is left of the newer after its newest are dropped
abbrev pub is_oldest_part : List ℕ → List ℕ → Bool
is_oldest_part older newer = pointwise nat_eq older (drop (length newer - length older) newer)

-- another live task of the caller's group whose filters are no oldest part of the caller's
abbrev pub conflicts : Process → Process → Bool
conflicts t u = is_sibling t u && is_live u && not (is_oldest_part (loads_of u) (loads_of t))

-- who gets the filter, of the live tasks: the caller, or all of its group
abbrev pub takes : Bool → Process → Process → Bool
takes false t u = is_task t.number u && is_live u
takes true t u = is_in_group t.group u && is_live u

-- which filter has the listener: the new one, if it is loaded with one
abbrev pub listener_after : Loading → ℕ → Option ℕ → Option ℕ
listener_after how load old = if how.listens then Some load else old

-- the caller's filters with one in front
abbrev pub loaded : Loading → List Insn → Process → Processes → Processes
loaded how program t ps =
    let filters = record { load = ps.loads + 1; judge = program_judge program } ∷ t.filters in
    let listener = listener_after how (ps.loads + 1) t.listener in
    record ps {
      loads = ps.loads + 1;
      tasks = map (λ u. if takes how.for_all t u then record u { filters = filters; listener = listener } else u) ps.tasks;
    }

-- a listener is told by the load number of its filter
abbrev pub load_answer : Loading → ℕ → Outcome
load_answer how load = if how.listens then Done load else Done 0

abbrev pub with_filter : Loading → List Insn → Process → Processes → Answer
with_filter how program t ps = (load_answer how (ps.loads + 1), loaded how program t ps)

-- in the order of numbers, the first task that conflicts has the least number
abbrev pub first_conflict : Bool → Process → Processes → Option Process
first_conflict false t ps = None
first_conflict true t ps = find (conflicts t) ps.tasks

-- such a task is told by its number, or by an error
abbrev pub conflict_answer : Loading → ℕ → Outcome
conflict_answer how number = if how.tells_error then Failed esrch else Done number

abbrev pub unless_conflict : Loading → Option Process → Processes → Answer → Answer
unless_conflict how (Some u) ps answer = (conflict_answer how u.number, ps)
unless_conflict how None ps answer = answer

-- a program that is accepted, and that no listener is in the way of
abbrev pub load_program : Loading → Process → List Insn → Processes → Answer
load_program how t program ps =
    if nat_lt 32768 (load_size program t) then (Failed enomem, ps)
    else if nat_le (2 ^ 32 - 1) ps.loads then (Failed enomem, ps)
    else unless_conflict how (first_conflict how.for_all t ps) ps (with_filter how program t ps)

-- of a task's filters one has a listener at most
abbrev pub load : Loading → Process → Attached → Processes → Answer
load how t NoBytes ps = (Failed efault, ps)
load how t Refused ps = (Failed einval, ps)
load how t (Taken program) ps =
    if how.listens && is_some t.listener then (Failed ebusy, ps) else load_program how t program ps

-- The table of calls, a line a row: what a call of a live task does that the verdict let through.
abbrev pub carried_out : Row → Process → Record → Attached → Processes → Answer
carried_out NewTask t r a ps = with_new (forked t) ps
carried_out NewThread t r a ps = with_new (cloned t) ps
carried_out Execve t r a ps = (Done 0, with_tasks ps (executed t ps.tasks))
carried_out Exit t r a ps = (Done 0, ended (is_task t.number) (end.Exit (bit_and (arg r 0) 0xff)) ps)
carried_out ExitGroup t r a ps = (Done 0, ended (is_in_group t.group) (end.Exit (bit_and (arg r 0) 0xff)) ps)
carried_out Kill t r a ps = killed (arg r 0) (arg r 1) ps
carried_out GetPid t r a ps = (Done t.group, ps)
carried_out GetTid t r a ps = (Done t.number, ps)
carried_out GetParent t r a ps = (Done t.parent, ps)
carried_out (Load how) t r a ps = load how t a ps
carried_out NoLoad t r a ps = (Failed einval, ps)
carried_out Plain t r a ps = (Done 0, ps)
carried_out Missing t r a ps = (Absent, ps)

-- the strictest verdict of a task's filters
abbrev pub verdict_on : Record → Process → ℕ
verdict_on r t = strictest_of (map (λ f. f.judge.verdict r) t.filters)

-- what a verdict ends, by signal 31 (SIGSYS)
abbrev pub ended_by_verdict : Ends → Process → Processes → Processes
ended_by_verdict Nothing t ps = ps
ended_by_verdict Task t ps = ended (is_task t.number) (end.Signal 31) ps
ended_by_verdict Group t ps = ended (is_in_group t.group) (end.Signal 31) ps

-- A listener is told of a call: the verdict notifies, and of the filters that do, the newest has the listener.

abbrev pub is_same : Option ℕ → Option ℕ → Bool
is_same (Some a) (Some b) = a == b
is_same a b = false

abbrev pub is_told : ℕ → Record → Process → Bool
is_told v r t = (action v == user_notif) && is_same (notifier r t.filters) t.listener

-- what a call is answered whose listener was told of it: none where the listener continues it, and the verdict where there
-- is no response
abbrev pub responded : ℕ → Option Response → Option Outcome
responded v None = Some (Denied v)
responded v (Some (Value n)) = Some (Answered n)
responded v (Some (Error e)) = Some (Declined e)
responded v (Some Continue) = None

-- what a call is answered that is not carried out, and none for one that is
abbrev pub withheld : ℕ → Record → Option Response → Process → Option Outcome
withheld v r response t =
    if is_through v then None
    else if is_told v r t then responded v response
    else Some (Denied v)

-- the call is carried out: the verdict lets it through, or a listener continues it
abbrev pub passes : ℕ → Record → Beside → Process → Bool
passes v r b t = is_none (withheld v r b.response t)

-- a call of a live task, with its verdict
abbrev pub judged_by : Option Outcome → ℕ → Process → Record → Beside → Processes → Answer
judged_by None v t r b ps = carried_out (calls.row_of ps.native r) t r b.attached ps
judged_by (Some outcome) v t r b ps = (outcome, ended_by_verdict (ends_of v) t ps)

abbrev pub judged : ℕ → Process → Record → Beside → Processes → Answer
judged v t r b ps = judged_by (withheld v r b.response t) v t r b ps

abbrev pub presented_by : Option Process → Record → Beside → Processes → Answer
presented_by None r b ps = (NoTask, ps)
presented_by (Some t) r b ps = judged (verdict_on r t) t r b ps

-- an event: task n presents a record
abbrev pub presented : ℕ → Record → Beside → Processes → Answer
presented n r b ps = presented_by (live_task n ps.tasks) r b ps

-- calls for which the kernel may take memory: a new task where there is room for it, and a load of bytes that are taken
abbrev pub may_grow : Row → Attached → Processes → Bool
may_grow NewTask a ps = has_room ps
may_grow NewThread a ps = has_room ps
may_grow (Load how) a ps = is_taken a
may_grow row a ps = false

-- a call is carried out for which the kernel may take memory
abbrev pub grows_by : Option Process → Record → Beside → Processes → Bool
grows_by None r b ps = false
grows_by (Some t) r b ps = passes (verdict_on r t) r b t && may_grow (calls.row_of ps.native r) b.attached ps

abbrev pub can_grow : ℕ → Record → Beside → Processes → Bool
can_grow n r b ps = grows_by (live_task n ps.tasks) r b ps
