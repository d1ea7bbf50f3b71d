-- Runs of two containers, each as an equation that is computed.
use Rattle.std.proofs.Common.{◌≡◌, ℕ, List, [], ◌∷◌, Option, Some, None, refl}
use Rattle.std.specs.Prelude.{codes}
use Rattle.machines.specs.declared.arch.Arch.TheVariants.{X86_64, Aarch64}
use Rattle.call_tables.specs.Tables.{x86_64_table, aarch64_table}
use Rattle.call_record.specs.Verdict.{strictest_of}
use Rattle.bpf_insn.specs.Code.{operation_of}
use Rattle.processes.specs.Attached.{beside_of, is_accepted, nothing_beside}
use Rattle.processes.specs.Tasks.{Judge}
use Rattle.processes.specs.declared.outcome.Outcome.TheVariants.{Done, Failed, Denied, NoTask}
use Rattle.processes.proofs.Rows.{allow_all, allowing, call, judging}
use Rattle.lifecycle.specs.declared.command.Status.TheVariants.{Created, Running, Stopped}
use Rattle.lifecycle.specs.declared.fault.Refusal.TheVariants.{NoContainer, NotCreated, StartDenied, NotAlive, BadSignal, NotStopped}
use Rattle.lifecycle.specs.declared.command.Reply.TheVariants.{Accepted, Refused, Presented, IsIn}
use Rattle.lifecycle.specs.Commands.{Command}
use Rattle.lifecycle.specs.Commands.Command.{Start, Kill, Delete, State, Call}
use Rattle.lifecycle.specs.Steps.{run}
use Rattle.lifecycle.specs.Worlds.{Container, First, World, unstarted}

-- `ret #0x50002`
abbrev pub error_2 : Option (List ℕ)
error_2 = Some (6 ∷ 0 ∷ 0 ∷ 0 ∷ 2 ∷ 0 ∷ 5 ∷ 0 ∷ [])

abbrev pub created : Judge → Container
created judge = record { status = Created; first = judge; processes = unstarted X86_64 }

abbrev pub asks : List ℕ → ℕ → List ℕ → Command
asks id task name = Call id task (call X86_64 name 0 0) nothing_beside

abbrev pub loads : List ℕ → ℕ → ℕ → Option (List ℕ) → Command
loads id task operation bytes = Call id task (call X86_64 (codes "seccomp") operation 0) (beside_of bytes None)

abbrev pub first_names : List (List ℕ)
first_names = codes "read" ∷ codes "getpid" ∷ codes "fork" ∷ codes "execve" ∷ codes "seccomp" ∷ codes "exit_group" ∷ []

abbrev pub c1 : List ℕ
c1 = codes "c1"

abbrev pub c2 : List ℕ
c2 = codes "c2"

abbrev pub two : World
two = (c1, created (allowing first_names)) ∷ (c2, created (allowing first_names)) ∷ []

abbrev pub script : List Command
script =
    asks c1 1 (codes "read") ∷ Start c1 ∷ Start c1 ∷ asks c1 1 (codes "fork") ∷ asks c1 2 (codes "read") ∷ asks c1 2 (codes "write")
    ∷ loads c1 1 1 None ∷ loads c1 1 0 None ∷ loads c1 1 1 (Some (5 ∷ 0 ∷ 0 ∷ 0 ∷ 0 ∷ 0 ∷ 0 ∷ 0 ∷ [])) ∷ loads c1 2 1 allow_all
    ∷ asks c1 2 (codes "write") ∷ loads c1 2 1 error_2 ∷ asks c1 2 (codes "getpid") ∷ asks c1 1 (codes "getpid") ∷ asks c1 2 (codes "write")
    ∷ Start c2 ∷ asks c2 1 (codes "fork") ∷ Delete c1 ∷ asks c1 1 (codes "exit_group") ∷ State c1 ∷ asks c1 2 (codes "getpid")
    ∷ asks c2 2 (codes "getpid") ∷ Call c2 1 (call Aarch64 (codes "write") 0 0) nothing_beside ∷ State c2 ∷ State (codes "c9") ∷ []

replies : (F : First) → (run F script two).0 ≡
    Presented NoTask ∷ Accepted ∷ Refused NotCreated ∷ Presented (Done 2) ∷ Presented (Done 0) ∷ Presented (Denied 0x00050001)
    ∷ Presented (Failed 14) ∷ Presented (Failed 22) ∷ Presented (Failed 22) ∷ Presented (Done 0)
    ∷ Presented (Denied 0x00050001) ∷ Presented (Done 0) ∷ Presented (Denied 0x00050002)
    ∷ Presented (Done 1) ∷ Presented (Denied 0x00050002)
    ∷ Accepted ∷ Presented (Done 2) ∷ Refused NotStopped ∷ Presented (Done 0) ∷ IsIn Stopped ∷ Presented NoTask
    ∷ Presented (Done 2) ∷ Presented (Denied 0) ∷ IsIn Stopped ∷ Refused NoContainer ∷ []
unfolding x86_64_table aarch64_table strictest_of operation_of is_accepted
replies F = refl

-- a container whose filter refuses its first execve, and one that is signalled
abbrev pub denied : List Command
denied = Start c1 ∷ State c1 ∷ Kill c1 9 ∷ Delete c1 ∷ State c1 ∷ Kill c2 65 ∷ Kill c2 15 ∷ Delete c2 ∷ []

refused : (F : First) → run F denied ((c1, created (allowing (codes "read" ∷ []))) ∷ (c2, created (allowing (codes "read" ∷ []))) ∷ []) ≡ (
  Refused (StartDenied 0x00050001) ∷ IsIn Stopped ∷ Refused NotAlive ∷ Accepted ∷ Refused NoContainer
      ∷ Refused BadSignal ∷ Accepted ∷ Accepted ∷ [],
  [],
)
unfolding x86_64_table strictest_of operation_of is_accepted
refused F = refl

-- a running container goes on with the threads of group 1, and a signal ends them all
abbrev pub goes_on : List Command
goes_on =
    Start c1 ∷ Call c1 1 (call X86_64 (codes "clone") 0x10000 0) nothing_beside ∷ asks c1 1 (codes "exit") ∷ State c1 ∷ Kill c1 1 ∷ State c1
    ∷ Kill c1 15 ∷ State c1 ∷ asks c1 2 (codes "read") ∷ []

went_on : (F : First) → (run F goes_on ((c1, created (judging X86_64 [] 0 1)) ∷ [])).0 ≡
    Accepted ∷ Presented (Done 2) ∷ Presented (Done 0) ∷ IsIn Running ∷ Accepted ∷ IsIn Running
    ∷ Accepted ∷ IsIn Stopped ∷ Presented NoTask ∷ []
unfolding x86_64_table strictest_of operation_of is_accepted
went_on F = refl
