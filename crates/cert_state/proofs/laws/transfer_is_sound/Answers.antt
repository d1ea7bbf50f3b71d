use Rattle.cert_state.proofs.StepLaws.{stays_inside}
use Rattle.cert_state.proofs.laws.transfer_is_sound.Goals as goal

pub returns : goal.returns
returns g c = stays_inside (g.S.State.regs c.args.state.now) (g.S.State.known c.args.state.now) c.args.insn.now c.requires
