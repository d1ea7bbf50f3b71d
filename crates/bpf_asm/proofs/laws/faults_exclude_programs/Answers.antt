use Rattle.bpf_asm.proofs.Texts.{no_program}
use Rattle.bpf_asm.proofs.laws.faults_exclude_programs.Goals as goal

pub returns : goal.returns
returns c = no_program
