use Rattle.cert_state.proofs.KnownLaws.{entailed_is_true}
use Rattle.cert_state.proofs.laws.entails_is_sound.Goals as goal

pub returns : goal.returns
returns g c = λ r s rec inside. entailed_is_true r rec (g.S.State.known c.args.state.now) inside.known c.args.literal.now c.requires
