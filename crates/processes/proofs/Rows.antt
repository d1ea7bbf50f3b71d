-- The table of calls on a few runs, each as an equation that is computed.
use Rattle.std.proofs.Common.{◌≡◌, ℕ, ◌%◌, ◌^◌, ◌==◌, ◌<◌, true, false, not, List, [], ◌∷◌, Option, Some, None, if◌then◌else◌, refl}
use Rattle.std.proofs.Common.{arith, map, All}
use Rattle.std.specs.Prelude.{codes, unwrap_or}
use Rattle.std.specs.List.{list_any}
use Rattle.std.proofs.lemmas.List.Elements.{All-cons}
use Rattle.std.specs.Str.{bytes_eq}
use Rattle.machines.specs.declared.arch.Arch.{Arch}
use Rattle.machines.specs.declared.arch.Arch.TheVariants.{X86_64}
use Rattle.machines.specs.Arch.{token_of}
use Rattle.call_tables.specs.Tables.{table_of}
use Rattle.call_tables.specs.Table.{Table, number_in, name_in}
use Rattle.call_tables.specs.Tables.{x86_64_table}
use Rattle.call_record.specs.Words.{FieldsFit}
use Rattle.call_record.specs.Verdict.{strictest_of}
use Rattle.call_record.specs.declared.layout.Record.{Record}
use Rattle.bpf_insn.specs.Code.{operation_of}
use Rattle.processes.specs.declared.outcome.End.{End}
use Rattle.processes.specs.declared.outcome.Outcome.{Outcome}
use Rattle.processes.specs.declared.outcome.Outcome.TheVariants.{Done, Failed, Absent, Denied, NoTask}
use Rattle.processes.specs.Tasks.{Judge, Processes, Process, admitted, lives}
use Rattle.processes.specs.Attached.{beside_of, is_accepted}
use Rattle.processes.specs.Kernel.{presented}

abbrev pub Fits : ℕ → Type 0
Fits u = u < 2 ^ 64

more : (u : ℕ) (us : List ℕ) → Fits u → All Fits us → All Fits (u ∷ us)
more u us h hs = All-cons Fits u us h hs

zeros : All Fits (0 ∷ 0 ∷ 0 ∷ 0 ∷ [])
zeros =
    let none : All Fits [] = λ k d h. absurd (omega arith) in
    let zero_fits : Fits 0 = omega arith in
    more 0 (0 ∷ 0 ∷ 0 ∷ []) zero_fits (more 0 (0 ∷ 0 ∷ []) zero_fits (more 0 (0 ∷ []) zero_fits (more 0 [] zero_fits none)))

-- each number in its field
pub fits : (nr token a b : ℕ) → FieldsFit (nr % 2 ^ 32) (token % 2 ^ 32) 0 (a % 2 ^ 64 ∷ b % 2 ^ 64 ∷ 0 ∷ 0 ∷ 0 ∷ 0 ∷ [])
fits nr token a b =
    let a_fits : Fits (a % 2 ^ 64) = omega arith in
    let b_fits : Fits (b % 2 ^ 64) = omega arith in
    record {
      nr_fits = omega arith;
      arch_fits = omega arith;
      ip_fits = omega arith;
      six_args = refl;
      args_fit = more (a % 2 ^ 64) (b % 2 ^ 64 ∷ 0 ∷ 0 ∷ 0 ∷ 0 ∷ []) a_fits (more (b % 2 ^ 64) (0 ∷ 0 ∷ 0 ∷ 0 ∷ []) b_fits zeros);
    }

-- a call with two arguments, by its name on a machine
abbrev pub call : Arch → List ℕ → ℕ → ℕ → Record
call machine name a b =
    let nr = unwrap_or (number_in (table_of machine) name) 999 in
    record {
      nr = nr % 2 ^ 32;
      arch = token_of machine % 2 ^ 32;
      ip = 0;
      args = a % 2 ^ 64 ∷ b % 2 ^ 64 ∷ 0 ∷ 0 ∷ 0 ∷ 0 ∷ [];
      in_range = fits nr (token_of machine) a b;
    }

-- these verdicts for the calls with these names, a verdict for calls of another machine, and ALLOW else
abbrev pub judging : Arch → Table → ℕ → ℕ → Judge
judging machine verdicts foreign count = record {
  verdict = λ r.
      if r.arch == token_of machine
      then unwrap_or (number_in verdicts (unwrap_or (name_in (table_of machine) r.nr) [])) 0x7fff0000
      else foreign;
  count = count;
}

-- these names, and error 1 else
abbrev pub allowing : List (List ℕ) → Judge
allowing names = record {
  verdict = λ r.
      if not (r.arch == token_of X86_64) then 0
      else if list_any (bytes_eq (unwrap_or (name_in (table_of X86_64) r.nr) [])) names then 0x7fff0000
      else 0x00050001;
  count = 9;
}

-- a line of a table: the task, its call, and what it attaches
abbrev pub Line : Type 0
Line = ℕ × Record × Option (List ℕ)

abbrev pub event : Line → Processes → Outcome × Processes
event e ps = presented e.0 e.1 (beside_of e.2 None) ps

abbrev pub answers : List Line → Processes → List Outcome × Processes
answers [] ps = ([], ps)
answers (e ∷ es) ps =
    let p = event e ps in let rest = answers es p.1 in (p.0 ∷ rest.0, rest.1)

-- what is told of a task: number, group, parent, images, end, and each filter's load and count
abbrev pub Told : Type 0
Told = ℕ × ℕ × ℕ × ℕ × Option End × List (ℕ × ℕ)

abbrev pub told_of : Process → Told
told_of t = (t.number, t.group, t.parent, t.images, t.end, map (λ f. (f.load, f.judge.count)) t.filters)

-- the answers, and the tasks after them
abbrev pub told : List Line → Processes → List Outcome × List Told × ℕ × ℕ
told lines ps =
    let a = answers lines ps in (a.0, map told_of a.1.tasks, a.1.made, a.1.loads)

abbrev pub names1 : List (List ℕ)
names1 =
    codes "read" ∷ codes "getpid" ∷ codes "fork" ∷ codes "execve" ∷ codes "seccomp" ∷ codes "exit_group"
    ∷ codes "clone" ∷ codes "exit" ∷ codes "gettid" ∷ codes "getppid" ∷ codes "kill" ∷ codes "clone3" ∷ []

abbrev pub fresh : Processes
fresh = admitted X86_64 (allowing names1)

abbrev pub started : Processes
started = (event (1, call X86_64 (codes "execve") 0 0, None) fresh).1

-- `ret #0x7fff0000` and `ret #0x50002`
abbrev pub allow_all : Option (List ℕ)
allow_all = Some (6 ∷ 0 ∷ 0 ∷ 0 ∷ 0 ∷ 0 ∷ 0xff ∷ 0x7f ∷ [])

abbrev pub error_2 : Option (List ℕ)
error_2 = Some (6 ∷ 0 ∷ 0 ∷ 0 ∷ 2 ∷ 0 ∷ 5 ∷ 0 ∷ [])

abbrev pub plain : ℕ → List ℕ → Line
plain n name = (n, call X86_64 name 0 0, None)

threads : (answers ((1, call X86_64 (codes "clone") 0x10000 0, None) ∷ (2, call X86_64 (codes "getpid") 0 0, None)
    ∷ (2, call X86_64 (codes "gettid") 0 0, None) ∷ []) started).0 ≡ Done 2 ∷ Done 1 ∷ Done 2 ∷ []
unfolding x86_64_table strictest_of operation_of is_accepted
threads = refl

abbrev pub group_lines : List Line
group_lines =
    (1, call X86_64 (codes "clone") 0x10000 0, None)
    ∷ plain 2 (codes "getpid")
    ∷ plain 2 (codes "gettid")
    ∷ plain 2 (codes "fork")
    ∷ plain 3 (codes "getppid")
    ∷ (2, call X86_64 (codes "seccomp") 1 1, allow_all)
    ∷ (1, call X86_64 (codes "seccomp") 1 0, error_2)
    ∷ (2, call X86_64 (codes "seccomp") 1 1, allow_all)
    ∷ plain 1 (codes "getpid")
    ∷ (2, call X86_64 (codes "seccomp") 1 2, None)
    ∷ plain 2 (codes "execve")
    ∷ plain 2 (codes "getpid")
    ∷ plain 1 (codes "getpid")
    ∷ (1, call X86_64 (codes "clone") 0x10000 0, None)
    ∷ plain 1 (codes "exit")
    ∷ []

abbrev pub last_lines : List Line
last_lines = plain 4 (codes "exit_group") ∷ plain 3 (codes "getpid") ∷ []

groups : (answers group_lines started).0 ≡
    Done 2 ∷ Done 1 ∷ Done 2 ∷ Done 3 ∷ Done 1 ∷ Done 0 ∷ Done 0 ∷ Done 1 ∷ Denied 0x00050002 ∷ Failed 22 ∷ Done 0 ∷ NoTask
    ∷ Done 1 ∷ Done 4 ∷ Done 0 ∷ []
unfolding x86_64_table strictest_of operation_of is_accepted
groups = refl

runs : lives (answers group_lines started).1 ≡ true
unfolding x86_64_table strictest_of operation_of is_accepted
runs = refl

stops : lives (answers last_lines (answers group_lines started).1).1 ≡ false
unfolding x86_64_table strictest_of operation_of is_accepted
stops = refl

last : (answers last_lines (answers group_lines started).1).0 ≡ Done 0 ∷ NoTask ∷ []
unfolding x86_64_table strictest_of operation_of is_accepted
last = refl

calls : (answers (
    (1, call X86_64 (codes "clone") 0 0, None)
    ∷ (2, call X86_64 (codes "clone") 0x10000 0, None)
    ∷ plain 2 (codes "getppid")
    ∷ plain 1 (codes "getppid")
    ∷ (2, call X86_64 (codes "kill") 1 9, None)
    ∷ (1, call X86_64 (codes "kill") 2 65, None)
    ∷ (1, call X86_64 (codes "kill") 3 9, None)
    ∷ plain 1 (codes "clone3")
    ∷ (1, call X86_64 (codes "kill") 2 15, None)
    ∷ (1, call X86_64 (codes "kill") 2 15, None)
    ∷ plain 2 (codes "getpid")
    ∷ plain 1 (codes "fork")
    ∷ []) started).0 ≡
    Done 2 ∷ Done 3 ∷ Done 1 ∷ Done 0 ∷ Done 0 ∷ Failed 22 ∷ Failed 3 ∷ Absent ∷ Done 0 ∷ Failed 3 ∷ NoTask ∷ Done 4 ∷ []
unfolding x86_64_table strictest_of operation_of is_accepted
calls = refl
