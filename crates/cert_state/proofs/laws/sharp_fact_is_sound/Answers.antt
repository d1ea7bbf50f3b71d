use Rattle.cert_state.proofs.SharpLaws.{follows_sharp_fact}
use Rattle.cert_state.proofs.laws.sharp_fact_is_sound.Goals as goal

pub returns : goal.returns
returns g c = follows_sharp_fact (g.S.State.regs c.args.state.now) (g.S.State.known c.args.state.now) c.args.insn.now
