-- What each command does to the container that it names, and what it is answered (OCI Runtime Specification, Runtime and
-- Lifecycle, Operations).
use Rattle.std.specs.Prelude.{ℕ, List, [], ◌∷◌, Option, None, Some, if◌then◌else◌, nat_lt}
use Rattle.machines.specs.declared.arch.Arch.{Arch}
use Rattle.call_record.specs.declared.layout.Record.{Record}
use Rattle.cert_check.specs.declared.checked.Checked.{Checked}
use Rattle.cert_check.specs.Checked.{profile_of}
use Rattle.processes.specs.Ids.{is_id}
use Rattle.processes.specs.Tasks.{Judge, Processes, admitted, lives}
use Rattle.processes.specs.Attached.{Beside, nothing_beside}
use Rattle.processes.specs.Kernel.{Answer, presented, signalled, is_fatal}
use Rattle.processes.specs.Begin.{execve_of}
use Rattle.processes.specs.declared.outcome.Outcome.{Outcome}
use Rattle.processes.specs.declared.outcome.Outcome.TheVariants.{Denied, NoTask}
use Rattle.lifecycle.specs.declared.command.Status.{Status}
use Rattle.lifecycle.specs.declared.command.Status.TheVariants.{Created, Running, Stopped}
use Rattle.lifecycle.specs.declared.fault.Refusal.TheVariants.{BadId, IdTaken, NoContainer, NotCreated, StartDenied, NotAlive}
use Rattle.lifecycle.specs.declared.fault.Refusal.TheVariants.{BadSignal, NotStopped}
use Rattle.lifecycle.specs.declared.command.Reply.{Reply}
use Rattle.lifecycle.specs.declared.command.Reply.TheVariants.{Accepted, Refused, Presented, IsIn}
use Rattle.lifecycle.specs.Commands.{Command, id_of}
use Rattle.lifecycle.specs.Commands.Command.{Create, Start, Kill, Delete, State, Call}
use Rattle.lifecycle.specs.Worlds.{Container, World, First, unstarted, container_at, put}

-- the answer, and the container after it, if there is one
abbrev pub Result : Type 0
Result = Reply × Option Container

-- after what its tasks did: it runs while a task of group 1 lives
abbrev pub running : Container → Processes → Container
running c ps = record c { status = if lives ps then Running else Stopped; processes = ps }

abbrev pub create : First → Checked → Option Container → Result
create F given None = (Accepted, Some (record { status = Created; first = F given; processes = unstarted (profile_of given).native }))
create F given (Some c) = (Refused IdTaken, Some c)

-- the call with which a container begins: task 1 has the container's filter alone, and presents an execve
abbrev pub first_call : Arch → Judge → Answer
first_call native first = presented 1 (execve_of native) nothing_beside (admitted native first)

-- what start is answered, by what that call was
abbrev pub start_reply : Outcome → Reply
start_reply (Denied v) = Refused (StartDenied v)
start_reply outcome = Accepted

-- where the filter denied it, task 1 ends
abbrev pub left_after : Outcome → Processes → Processes
left_after (Denied v) ps = signalled 9 ps
left_after outcome ps = ps

abbrev pub start : Status → Container → Result
start Created c =
    let p = first_call c.processes.native c.first in (start_reply p.0, Some (running c (left_after p.0 p.1)))
start status c = (Refused NotCreated, Some c)

abbrev pub kill : ℕ → Status → Container → Result
kill sig Stopped c = (Refused NotAlive, Some c)
kill sig Created c =
    if nat_lt 64 sig then (Refused BadSignal, Some c) else (Accepted, Some (if is_fatal sig then record c { status = Stopped } else c))
kill sig Running c = if nat_lt 64 sig then (Refused BadSignal, Some c) else (Accepted, Some (running c (signalled sig c.processes)))

abbrev pub delete : Status → Container → Result
delete Stopped c = (Accepted, None)
delete status c = (Refused NotStopped, Some c)

-- only a running container has live tasks
abbrev pub call : ℕ → Record → Beside → Status → Container → Result
call task r b Running c =
    let p = presented task r b c.processes in (Presented p.0, Some (running c p.1))
call task r b status c = (Presented NoTask, Some c)

abbrev pub known : Option Container → (Container → Result) → Result
known None next = (Refused NoContainer, None)
known (Some c) next = next c

-- What a command is answered, and what it makes of the container that it names.
abbrev pub acted : First → Command → Option Container → Result
acted F (Create id given) o = if is_id id then create F given o else (Refused BadId, o)
acted F (Start id) o = known o (λ c. start c.status c)
acted F (Kill id sig) o = known o (λ c. kill sig c.status c)
acted F (Delete id) o = known o (λ c. delete c.status c)
acted F (State id) o = known o (λ c. (IsIn c.status, Some c))
acted F (Call id task r b) o = known o (λ c. call task r b c.status c)

-- one command, in a world
abbrev pub step : First → Command → World → Reply × World
step F o w =
    let r = acted F o (container_at (id_of o) w) in (r.0, put (id_of o) r.1 w)

-- one command after another
abbrev pub run : First → List Command → World → List Reply × World
run F [] w = ([], w)
run F (o ∷ os) w =
    let s = step F o w in let rest = run F os s.1 in (s.0 ∷ rest.0, rest.1)
