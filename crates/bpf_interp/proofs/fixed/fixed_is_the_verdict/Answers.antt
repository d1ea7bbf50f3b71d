use Rattle.bpf_interp.proofs.Known.{fixed_stays}
use Rattle.bpf_interp.proofs.fixed.fixed_is_the_verdict.Goals as goal

pub returns : goal.returns
returns c = fixed_stays
