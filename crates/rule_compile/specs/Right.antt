-- What a right filter is: the kernel accepts it, and on each call record it gives the verdict that the profile says.
use Rattle.std.specs.Prelude.{◌≡◌, ℕ, List, Some}
use Rattle.call_record.specs.Words.{IsRecord}
use Rattle.bpf_insn.specs.declared.instruction.Insn.{Insn}
use Rattle.bpf_insn.specs.Machine.{verdict_of}
use Rattle.kernel_check.specs.Accepted.{IsAccepted}
use Rattle.profile.specs.Policy.{Policy}
use Rattle.profile.specs.Said.{said}

pub record IsRightFilter (policy : Policy) (p : List Insn) : Type 0 where
  pub accepted : IsAccepted p
  pub gives : (r : List ℕ) → IsRecord r → verdict_of p r ≡ Some (said policy r)
