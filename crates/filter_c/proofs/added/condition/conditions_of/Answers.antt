use Rattle.std.proofs.Common.{arith}
use Rattle.std.proofs.lemmas.List.Elements.{Contains-get_or}
use Rattle.filter_c.proofs.MadeLaws.{as_many}
use Rattle.filter_c.proofs.added.condition.conditions_of.Goals as goal

pub push-requires : goal.push-requires
push-requires c =
    let many = as_many c.loop-part.conds.items c.args.given.now c.loop-part.part-index c.loop-part.invariant c.loop-part-test.true in
    (omega arith, omega (arith, many, c.loop-part-test.true, c.requires))

pub returns-in_default-clause-none : goal.returns-in_default-clause-none
returns-in_default-clause-none c =
    let at = Contains-get_or c.args.given.now c.loop-part.part-index _ c.loop-part-test.true in (at.0, _, at.1, at.2, c.in_default.ensures.none)
