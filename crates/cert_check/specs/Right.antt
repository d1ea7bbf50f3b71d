-- What a yes says of a program.
use Rattle.std.specs.Prelude.{◌≡◌, ◌↔◌, ℕ, List, Some}
use Rattle.call_record.specs.Words.{IsRecord}
use Rattle.bpf_insn.specs.declared.instruction.Insn.{Insn}
use Rattle.bpf_insn.specs.Machine.{verdict_of}
use Rattle.kernel_check.specs.Accepted.{IsAccepted}
use Rattle.profile.specs.Policy.{Policy, IsClear, Says}
use Rattle.profile.specs.Said.{said}
use Rattle.cert_form.specs.Nodes.{PlainNode}
use Rattle.cert_check.specs.Rules.{IsValid}

-- on each record the program gives the verdict that the profile says of it, and no other
abbrev pub IsRight : Policy → List Insn → Type 0
IsRight policy p = (r : List ℕ) → IsRecord r → (v : ℕ) → (verdict_of p r ≡ Some v) ↔ Says policy r v

-- each verdict that the program gives on a record is the profile's
abbrev pub GivesOnly : Policy → List Insn → Type 0
GivesOnly policy p = (r : List ℕ) → IsRecord r → (v : ℕ) → verdict_of p r ≡ Some v → v ≡ said policy r

-- a valid certificate of an accepted program makes it right for a clear profile
abbrev pub ValidIsRight : Type 0
ValidIsRight =
    (policy : Policy) (p : List Insn) (ns : List PlainNode) → IsClear policy.rules → IsAccepted p → IsValid policy p ns → IsRight policy p
