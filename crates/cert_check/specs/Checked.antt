-- What is seen of a checked filter.
use Rattle.std.specs.Prelude.{ℕ, List}
use Rattle.bpf_insn.specs.declared.instruction.Insn.{Insn}
use Rattle.kernel_check.specs.Lent.{accepted_insns}
use Rattle.profile.specs.Policy.{Policy}
use Rattle.cert_check.specs.declared.checked.Checked.{Checked}

-- its profile, the instructions of its filter, and the bytes of its certificate
unfoldable pub profile_of : Checked → Policy
profile_of checked = checked.profile.now

unfoldable pub program_of : Checked → List Insn
program_of checked = accepted_insns checked.program

unfoldable pub cert_of : Checked → List ℕ
cert_of checked = checked.cert.now
