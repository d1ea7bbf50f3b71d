use Rattle.std.proofs.Common.{arith, refl}
use Rattle.rule_compile.specs.inner.Emitted.{forks}
use Rattle.rule_compile.proofs.GoesLaws.{branches, if_branched}
use Rattle.rule_compile.proofs.assembler.Assembler.branch.Goals as goal

pub returns-clause-written : goal.returns-clause-written
returns-clause-written c =
    if_branched c.write.result c.args.self.now c.near_target-2.new.self c.write.new.self _ c.args.test c.args.k c.args.exits
    c.write.ensures.written
    (branches c.args.self.now c.near_target.new.self c.near_target-2.new.self c.args.test c.args.k c.args.exits _ c.in_ok-no.no
    c.in_ok-yes.yes
    c.requires c.in_ok-no.ensures.reached c.in_ok-yes.ensures.reached c.code.ensures.decoded refl c.distance.ensures.skipped
    c.distance-2.ensures.skipped)

pub write-requires : goal.write-requires
write-requires c =
    forks c.args.test c.code.ensures.decoded (omega (arith, c.distance.ensures.skipped, c.in_ok-yes.ensures.reached.placed.0))
    (omega (arith, c.distance-2.ensures.skipped, c.in_ok-no.ensures.reached.placed.0))
