-- What is promised of filters of which each comparison tells all that it asks is promised of those that compare steadily.
use Rattle.std.proofs.Common.{ℕ, List}
use Rattle.std.specs.Global.{Vec}
use Rattle.std.specs.Prelude.{Result}
use Rattle.bpf_insn.specs.declared.instruction.Insn.{Insn}
use Rattle.profile.specs.Policy.{Policy}
use Rattle.certify.proofs.TellingLaws.{steady_telling}
use Rattle.certify.specs.Certificates.{RightLacksRoom, TellingLacksRoom}
use Rattle.certify.specs.declared.error.CertifyError.{CertifyError}

pub right_of_telling : (policy : Policy) (p : List Insn) (result : Result (Vec ℕ) CertifyError) → TellingLacksRoom policy p result
    → RightLacksRoom policy p result
right_of_telling policy p result telling right steady = telling right (steady_telling p steady)
