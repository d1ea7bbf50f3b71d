-- What is planned for a profile: a program of any length that is right for it.
use Rattle.std.specs.Prelude.{◌≡◌, ◌≤◌, ◌<◌, ℕ, List, Some, length}
use Rattle.call_record.specs.Words.{IsRecord}
use Rattle.bpf_insn.specs.Bytes.{max_insns}
use Rattle.bpf_insn.specs.declared.instruction.Insn.{Insn}
use Rattle.bpf_insn.specs.Machine.{verdict_of}
use Rattle.kernel_check.specs.Accepted.{HasCause}
use Rattle.kernel_check.specs.declared.fault.Cause.{Cause}
use Rattle.profile.specs.Policy.{Policy}
use Rattle.profile.specs.Said.{said}
use Rattle.rule_compile.specs.Shape.{IsCallFilter, IsPlain}
use Rattle.rule_compile.specs.Steady.{IsSteady, Nothing}

-- The kernel refuses it for nothing but its length, it gives each call record the verdict that the profile says, and it
-- compares steadily. For a plain profile it has the shape of such filters, so it is no longer than the kernel takes.
pub record IsPlanOf (policy : Policy) (p : List Insn) : Type 0 where
  pub some : 1 ≤ length p
  pub no_cause : (i : ℕ) (k : Cause) → HasCause p i k → ⊥
  pub gives : (r : List ℕ) → IsRecord r → verdict_of p r ≡ Some (said policy r)
  pub steady : IsSteady p 0 Nothing
  pub shape : IsPlain policy → IsCallFilter policy p

-- the profile has a plan with more instructions than the kernel takes
pub record IsPlannedTooLong (policy : Policy) : Type 0 where
  pub plan : List Insn
  pub is_plan : IsPlanOf policy plan
  pub longer : max_insns < length plan
