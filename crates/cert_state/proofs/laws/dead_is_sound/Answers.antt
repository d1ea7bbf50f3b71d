use Rattle.cert_state.proofs.KnownLaws.{dead_is_none}
use Rattle.cert_state.proofs.laws.dead_is_sound.Goals as goal

pub returns : goal.returns
returns g c = λ r s rec inside. dead_is_none r rec (g.S.State.known c.args.state.now) inside.known c.requires
