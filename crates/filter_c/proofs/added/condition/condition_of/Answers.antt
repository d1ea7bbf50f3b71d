use Rattle.std.proofs.Common.{◌≡◌, Some, ◌<◌, arith}
use Rattle.filter_c.specs.Parts.{operator_with}
use Rattle.filter_c.proofs.MadeLaws.{no_condition}
use Rattle.filter_c.proofs.added.condition.condition_of.Goals as goal

pub returns-clause-none : goal.returns-clause-none
returns-clause-none c =
    let is : operator_with c.args.given.operator ≡ Some c.in-Some.op = let a = c.operator_with.ensures in let b = c.in-Some.is in cc in
    let small : c.args.given.argument < 6 = let a = c.if-given-gt5.false in omega (arith, a) in
    no_condition c.args.given c.in-Some.op c.new.result is small c.new.ensures.made.1
