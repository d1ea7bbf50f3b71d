-- What holds of every container, whatever was commanded before.
use Rattle.std.specs.Prelude.{◌≡◌, ◌⊎◌, ◌&&◌, ℕ, Bool, List, [], ◌∷◌, ◌++◌, Option, None, Some}
use Rattle.std.specs.Prelude.{if◌then◌else◌, is_some, not, slice_get}
use Rattle.std.specs.Prelude.{take}
use Rattle.std.specs.Prelude.{true, false}
use Rattle.std.specs.List.{All, Contains}
use Rattle.call_record.specs.declared.layout.Record.{Record}
use Rattle.call_record.specs.Record.{words}
use Rattle.call_record.specs.Verdict.{IsRefusal, is_stricter, user_notif}
use Rattle.profile.specs.Said.{said}
use Rattle.cert_check.specs.declared.checked.Checked.{Checked}
use Rattle.cert_check.specs.Checked.{profile_of}
use Rattle.processes.specs.Attached.{Beside}
use Rattle.processes.specs.Begin.{execve_of}
use Rattle.processes.specs.First.{by_profile, by_program}
use Rattle.processes.specs.Laws.{StandsBehind, goes_on}
use Rattle.processes.specs.Tasks.{Filter, Judge, Process, Processes, live_task}
use Rattle.processes.specs.Views.{same_text}
use Rattle.processes.specs.declared.outcome.Outcome.{Outcome}
use Rattle.processes.specs.declared.outcome.Outcome.TheVariants.{Denied, Answered, Declined, NoTask, Done, Failed, Absent}
use Rattle.processes.specs.declared.outcome.Response.{Response}
use Rattle.processes.specs.declared.outcome.Response.TheVariants.{Value, Error, Continue}
use Rattle.lifecycle.specs.declared.command.Reply.{Reply}
use Rattle.lifecycle.specs.declared.command.Reply.TheVariants.{Presented, Refused}
use Rattle.lifecycle.specs.declared.command.Status.{Status}
use Rattle.lifecycle.specs.declared.command.Status.TheVariants.{Created, Running}
use Rattle.lifecycle.specs.declared.fault.Refusal.TheVariants.{StartDenied}
use Rattle.lifecycle.specs.Commands.{Command, id_of}
use Rattle.lifecycle.specs.Commands.Command.{Call, Create, Start}
use Rattle.lifecycle.specs.Steps.{run, step}
use Rattle.lifecycle.specs.Worlds.{Container, First, World, container_at}

-- the world after these commands, where there were no containers before
abbrev pub world_after : First → List Command → World
world_after F commands = (run F commands []).1

-- the replies to these commands, where there were no containers before
abbrev pub replies_to : First → List Command → List Reply
replies_to F commands = (run F commands []).0

-- the reply at a place is of a kind
pub record ReplyAt (P : Reply → Type 0) (replies : List Reply) (i : ℕ) : Type 0 where
  pub reply : Reply
  pub at : slice_get replies i ≡ Some reply
  pub is : P reply

-- each reply is that of the command at its place, in the world after the commands before it
abbrev pub RepliesAreSteps : Type 0
RepliesAreSteps = (F : First) (commands : List Command) (i : ℕ) (o : Command) → slice_get commands i ≡ Some o
    → slice_get (replies_to F commands) i ≡ Some (step F o (world_after F (take i commands))).0

-- What the program of a checked filter gives and what its profile says are one first judge.
abbrev pub OneFirstJudge : Type 0
OneFirstJudge = (given : Checked) → by_program given ≡ by_profile given

-- ---- what a container was created with

-- The command that made the container of an id, with its checked filter. Before it there was none, and there has been one
-- since, after it and after each later command.
pub record MadeBy (F : First) (commands : List Command) (id : List ℕ) (given : Checked) : Type 0 where
  pub before : List Command
  pub since : List Command
  pub in_all : commands ≡ before ++ Create id given ∷ since
  pub none_before : container_at id (world_after F before) ≡ None
  pub there_since : (n : ℕ) → is_some (container_at id (world_after F (before ++ Create id given ∷ take n since))) ≡ true

-- Each container was made by such a command, and its first judge and its machine are those of the checked filter that the
-- command gave.
pub record FirstIsGiven : Type 0 where
  pub made : (F : First) (commands : List Command) (id : List ℕ) (c : Container) → container_at id (world_after F commands) ≡ Some c
      → (given : Checked) × MadeBy F commands id given
  pub first : (F : First) (commands : List Command) (id : List ℕ) (c : Container) (given : Checked)
      → container_at id (world_after F commands) ≡ Some c
      → MadeBy F commands id given → c.first ≡ F given
  pub native : (F : First) (commands : List Command) (id : List ℕ) (c : Container) (given : Checked)
      → container_at id (world_after F commands) ≡ Some c
      → MadeBy F commands id given → c.processes.native ≡ (profile_of given).native

-- ---- the oldest filter

-- the judge is the oldest of a task's filters: there may be newer ones in front of it
abbrev pub IsOldest : Judge → Process → Type 0
IsOldest judge t = (newer : List Filter) × (t.filters ≡ newer ++ record { load = 0; judge = judge } ∷ [])

-- The filter that a container was created with is the oldest of each of its tasks.
abbrev pub FirstFilterIsOldest : Type 0
FirstFilterIsOldest =
    (F : First) (commands : List Command) (id : List ℕ) (c : Container) → container_at id (world_after F commands) ≡ Some c
    → All (IsOldest c.first) c.processes.tasks

-- ---- the filters that a task has

-- The live task of a container that goes on under number m after a command to it. Only in a running container a call is
-- carried out.
abbrev pub goes_on_after : Command → ℕ → Status → Processes → Option Process
goes_on_after (Call id task r b) m Running ps = goes_on task r b m ps
goes_on_after o m status ps = live_task m ps.tasks

-- and after a command to whichever container
abbrev pub goes_on_in : List ℕ → Command → ℕ → Container → Option Process
goes_on_in id o m c = if same_text id (id_of o) then goes_on_after o m c.status c.processes else live_task m c.processes.tasks

-- A task that lives before a command and after it has its old filters, with newer ones in front of them or none. It lives
-- under its own number or, if it called execve, under its group's.
abbrev pub OldFiltersStay : Type 0
OldFiltersStay =
    (F : First) (commands : List Command) (o : Command) (id : List ℕ) (c d : Container) (m : ℕ) (t u : Process)
    → container_at id (world_after F commands) ≡ Some c → container_at id (step F o (world_after F commands)).1 ≡ Some d
    → goes_on_in id o m c ≡ Some t → live_task m d.processes.tasks ≡ Some u → StandsBehind t.filters u.filters

-- In a container a load number stands for one judge. So lists of filters that have the same numbers are the same. Numbers are what is
-- compared before one task's list is given to its group.
abbrev pub LoadsTellFilters : Type 0
LoadsTellFilters =
    (F : First) (commands : List Command) (id : List ℕ) (c : Container) → container_at id (world_after F commands) ≡ Some c
    → (t u : Process) (f g : Filter) → Contains c.processes.tasks t → Contains c.processes.tasks u
    → Contains t.filters f → Contains u.filters g
    → f.load ≡ g.load → f ≡ g

-- ---- what a profile refuses

-- the call was not carried out: it was denied, a listener answered it, or there is no such live task
abbrev pub is_withheld : Outcome → Bool
is_withheld (Done n) = false
is_withheld (Failed e) = false
is_withheld Absent = false
is_withheld (Denied v) = true
is_withheld (Answered n) = true
is_withheld (Declined e) = true
is_withheld NoTask = true

abbrev pub NotCarriedOut : Reply → Type 0
NotCarriedOut reply = (o : Outcome) × (reply ≡ Presented o) × (is_withheld o ≡ true)

abbrev pub is_continue : Option Response → Bool
is_continue None = false
is_continue (Some (Value n)) = false
is_continue (Some (Error e)) = false
is_continue (Some Continue) = true

-- A listener that is notified of a call may continue it, unless a filter's verdict is stricter than the one that notifies. So
-- the call may be carried out although the verdict refuses it, if such a response stands beside it.
abbrev pub may_be_continued : ℕ → Beside → Bool
may_be_continued v b = not (is_stricter v user_notif) && is_continue b.response

-- the start was denied
abbrev pub IsDeniedStart : Reply → Type 0
IsDeniedStart reply = (v : ℕ) × (reply ≡ Refused (StartDenied v))

-- In a run of these commands with these replies, with no containers before it: a call that its container's profile refuses is not carried
-- out. So it is whoever of the tasks presents it, and with whatever further filters. So it is whatever a listener
-- responds, if the profile's verdict is stricter than one that notifies.
-- Nor does a container start whose profile refuses the execve with which it begins. The reply at
-- the command's place tells both.
pub record RefusesIn (commands : List Command) (replies : List Reply) : Type 0 where
  pub call : (i : ℕ) (id : List ℕ) (given : Checked) (task : ℕ) (r : Record) (b : Beside)
      → slice_get commands i ≡ Some (Call id task r b) → MadeBy by_profile (take i commands) id given
      → IsRefusal (said (profile_of given) (words r)) → may_be_continued (said (profile_of given) (words r)) b ≡ false
      → ReplyAt NotCarriedOut replies i
  pub start : (i : ℕ) (id : List ℕ) (given : Checked) (c : Container)
      → slice_get commands i ≡ Some (Start id) → MadeBy by_profile (take i commands) id given
      → container_at id (world_after by_profile (take i commands)) ≡ Some c → c.status ≡ Created
      → IsRefusal (said (profile_of given) (words (execve_of (profile_of given).native))) → ReplyAt IsDeniedStart replies i

-- so it is in every run
abbrev pub RefusedIsNotCarriedOut : Type 0
RefusedIsNotCarriedOut = (commands : List Command) → RefusesIn commands (replies_to by_profile commands)
