-- The limits of the table of calls, each as an equation that is computed.
use Rattle.std.proofs.Common.{◌≡◌, ℕ, ◌-◌, ◌^◌, List, [], ◌∷◌, Option, None, refl, map}
use Rattle.std.specs.Prelude.{codes, replicate}
use Rattle.std.specs.List.{flat_map}
use Rattle.std.specs.Option.{option_map}
use Rattle.machines.specs.declared.arch.Arch.TheVariants.{X86_64, Aarch64}
use Rattle.call_tables.specs.Tables.{x86_64_table, aarch64_table}
use Rattle.call_record.specs.Verdict.{strictest_of}
use Rattle.bpf_insn.specs.Code.{operation_of}
use Rattle.processes.specs.Attached.{is_accepted, nothing_beside}
use Rattle.processes.specs.declared.outcome.Outcome.TheVariants.{Done, Failed, Denied}
use Rattle.processes.specs.Tasks.{Process, Processes, admitted}
use Rattle.processes.specs.Begin.{execve_of}
use Rattle.processes.specs.Kernel.{presented}
use Rattle.processes.proofs.Rows.{call, judging, answers, plain, started, fresh, allow_all, Line}

one_more : (answers (plain 1 (codes "fork") ∷ plain 1 (codes "fork") ∷ (1, call X86_64 (codes "clone") 0x10000 0, None)
    ∷ []) (record started { made = 1023 })).0
    ≡ Done 1024 ∷ Failed 11 ∷ Failed 11 ∷ []
unfolding x86_64_table strictest_of operation_of is_accepted
one_more = refl

-- a program of 4096 instructions, eight times
abbrev pub long : Option (List ℕ)
long = option_map (λ bytes. flat_map {X = ℕ} (λ n. bytes) (replicate 4096 0)) allow_all

abbrev pub load : Line
load = (1, call X86_64 (codes "seccomp") 1 0, long)

seven : (answers (load ∷ load ∷ load ∷ load ∷ load ∷ load ∷ load ∷ load ∷ []) started).0
    ≡ Done 0 ∷ Done 0 ∷ Done 0 ∷ Done 0 ∷ Done 0 ∷ Done 0 ∷ Done 0 ∷ Failed 12 ∷ []
unfolding x86_64_table strictest_of operation_of is_accepted
seven = refl

last_load : (answers ((1, call X86_64 (codes "seccomp") 1 0, allow_all) ∷ (1, call X86_64 (codes "seccomp") 1 1, allow_all)
    ∷ []) (record started { loads = 2 ^ 32 - 2 })).0
    ≡ Done 0 ∷ Failed 12 ∷ []
unfolding x86_64_table strictest_of operation_of is_accepted
last_load = refl

abbrev pub images_of : Processes → List ℕ
images_of ps = map (λ t. t.images) ps.tasks

abbrev pub with_images : ℕ → Processes → Processes
with_images n ps = record ps { tasks = map {A = Process} (λ t. record t { images = n }) ps.tasks }

stays : images_of (answers (plain 1 (codes "execve") ∷ plain 1 (codes "execve") ∷ []) (with_images (2 ^ 64 - 2) started)).1
    ≡ (2 ^ 64 - 1) ∷ []
unfolding x86_64_table strictest_of operation_of is_accepted
stays = refl

-- a container begins with execve
begins : (presented 1 (execve_of X86_64) nothing_beside fresh).0 ≡ Done 0
unfolding x86_64_table strictest_of
begins = refl

begins_there : (presented 1 (execve_of Aarch64) nothing_beside (admitted Aarch64 (judging Aarch64 ((codes "execve", 0x00050026) ∷ []) 0 1))).0
    ≡ Denied 0x00050026
unfolding aarch64_table strictest_of
begins_there = refl

-- 32768 instructions in all are taken, and one more is not
just_fits : (answers ((1, call X86_64 (codes "seccomp") 1 0, allow_all) ∷ []) (admitted X86_64 (judging X86_64 [] 0 32763))).0 ≡ Done 0 ∷ []
unfolding x86_64_table strictest_of operation_of is_accepted
just_fits = refl

one_too_many : (answers ((1, call X86_64 (codes "seccomp") 1 0, allow_all) ∷ []) (admitted X86_64 (judging X86_64 [] 0 32764))).0
    ≡ Failed 12 ∷ []
unfolding x86_64_table strictest_of operation_of is_accepted
one_too_many = refl
