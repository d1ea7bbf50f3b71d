use Rattle.widths.proofs.AlikeLaws.{go_equally_far}
use Rattle.widths.proofs.unread_bits.law.alike_calls_go_equally_far.Goals as goal

pub returns : goal.returns
returns c = λ past stopped. go_equally_far c.args.profile.now c.rules.ensures.is_profile.clear past stopped
