-- What the kernel accepts, and what it refuses a program for (the kernel's documentation of
-- seccomp_filter, and its checks bpf_check_classic and seccomp_check_filter).
use Rattle.std.specs.Prelude.{ℕ, ◌≡◌, ◌≢◌, ◌+◌, ◌≤◌, ◌⊎◌, List, length, Option, Some, slice_get}
use Rattle.bpf_insn.specs.declared.code.Operation.{Operation}
use Rattle.bpf_insn.specs.declared.code.Operation.TheVariants.{ReturnK, ReturnA, Jump, Branch}
use Rattle.bpf_insn.specs.declared.instruction.Insn.{Insn}
use Rattle.bpf_insn.specs.Bytes.{max_insns}
use Rattle.bpf_insn.specs.Code.{operation_of}
use Rattle.bpf_insn.specs.Causes.{IsUnlisted, IsBadLoad, IsBadShift, ReadsScratch}
use Rattle.bpf_insn.specs.Machine.{Gives}
use Rattle.kernel_check.specs.declared.fault.Cause.{Cause}
use Rattle.kernel_check.specs.declared.fault.Cause.TheVariants.{Code, Load, Shift, Target, End, Scratch}
use Rattle.kernel_check.specs.declared.fault.Refused.{Refused}
use Rattle.kernel_check.specs.Fault.{number_of}
use Rattle.kernel_check.specs.Paths.{Unwritten}

-- from position i of n a jump leads past the last instruction, by one of its targets
abbrev pub LeadsOut : Option Operation → ℕ → ℕ → Insn → Type 0
LeadsOut (Some Jump) n i insn = n ≤ i + 1 + insn.k
LeadsOut (Some (Branch test c)) n i insn = (n ≤ i + 1 + insn.jt) ⊎ (n ≤ i + 1 + insn.jf)
LeadsOut _ n i insn = ⊥

abbrev pub IsReturn : Insn → Type 0
IsReturn insn = (operation_of insn.code ≡ Some ReturnK) ⊎ (operation_of insn.code ≡ Some ReturnA)

-- the cause stands at position i of the program, where this instruction is
abbrev pub CauseAt : Cause → List Insn → ℕ → Insn → Type 0
CauseAt Code p i insn = IsUnlisted insn
CauseAt Load p i insn = IsBadLoad insn
CauseAt Shift p i insn = IsBadShift insn
CauseAt Target p i insn = LeadsOut (operation_of insn.code) (length p) i insn
CauseAt End p i insn = (i + 1 ≡ length p) × (IsReturn insn → ⊥)
CauseAt Scratch p i insn = ReadsScratch insn × Unwritten p insn.k i

-- the cause stands at a position of the program
abbrev pub HasCause : List Insn → ℕ → Cause → Type 0
HasCause p i k = (insn : Insn) × (slice_get p i ≡ Some insn) × CauseAt k p i insn

-- from 1 to 4096 instructions, and no cause at any position, reachable or not
pub record IsAccepted (p : List Insn) : Type 0 where
  pub some : 1 ≤ length p
  pub limit : length p ≤ max_insns
  pub no_cause : (i : ℕ) (k : Cause) → HasCause p i k → ⊥

-- what a program is refused for: the least position with a cause other than Scratch, and the least
-- cause there. If there is none, it is the least position with Scratch
pub record IsRefusal (p : List Insn) (e : Refused) : Type 0 where
  pub stands : HasCause p e.pc e.cause
  pub least_position : (i : ℕ) (k : Cause) → k ≢ Scratch → HasCause p i k → e.pc ≤ i
  pub least_cause : (k : Cause) → HasCause p e.pc k → number_of e.cause ≤ number_of k
  pub scratch_last : e.cause ≡ Scratch → (i : ℕ) (k : Cause) → HasCause p i k → (k ≡ Scratch) × (e.pc ≤ i)

-- a program has one refusal, and none where it is accepted
pub record OneRefusal : Type 0 where
  pub one : (p : List Insn) (e f : Refused) → IsRefusal p e → IsRefusal p f → e ≡ f
  pub none : (p : List Insn) (e : Refused) → IsAccepted p → IsRefusal p e → ⊥

-- an accepted program gives a verdict on each record, in at most its length
abbrev pub AcceptedGive : Type 0
AcceptedGive =
    (p : List Insn) (r : List ℕ) → IsAccepted p → length r ≡ 16
    → (word : ℕ) × (n : ℕ) × Gives p r word n × (n ≤ length p)
