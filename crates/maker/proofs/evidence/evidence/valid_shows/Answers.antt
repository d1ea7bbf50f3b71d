use Rattle.kernel_check.specs.Lent.{accepted_insns}
use Rattle.maker.proofs.evidence.evidence.valid_shows.Goals as goal

pub returns : goal.returns
returns c = λ cert valid.
    c.valid_is_right.ensures c.args.profile.now (accepted_insns c.args.program.now) valid.0 c.rules.ensures.is_profile.clear
    c.program.ensures.accepted valid.2
