use Rattle.std.proofs.Common.{subst}
use Rattle.std.specs.List.{All, Contains}
use Rattle.profile.specs.declared.rules.Rule.{Rule}
use Rattle.engines.specs.Settled.{EachGivesWay}
use Rattle.engines.proofs.settling.judged.settles.Goals as goal
use Rattle.engines.proofs.SettledLaws.{settles}

pub returns : goal.returns
returns c = λ t.
    let among = subst (All (λ (rule : Rule). Contains c.args.rules.now rule)) c.rules-kept.ensures.rules
    (c.are_among.ensures c.if-not-are_among.false) in
    let each = subst (EachGivesWay c.args.choice c.args.rules.now) c.rules-kept.ensures.rules (c.each_gives_way.ensures t) in
    settles c.args.choice c.args.rules.now c.args.profile.now c.rules-kept.ensures.is_profile.clear among each
