use Rattle.bpf_asm.proofs.Texts.{one_fault}
use Rattle.bpf_asm.proofs.laws.faults_are_one.Goals as goal

pub returns : goal.returns
returns c = one_fault
