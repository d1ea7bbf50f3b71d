use Rattle.std.proofs.Common.{subst, inl, inr}
use Rattle.cert_state.specs.Points.{HasNoPoint}
use Rattle.cert_check.proofs.conditions.ends.Goals as goal

pub returns-in_default : goal.returns-in_default
returns-in_default g c = inl (subst (HasNoPoint (g.K.Knowledge.known c.args.known.now)) c.low_word.ensures c.in_default.ensures)

pub returns-in_default-ends_above : goal.returns-in_default-ends_above
returns-in_default-ends_above g c = inr c.in_default-ends_above.ensures
