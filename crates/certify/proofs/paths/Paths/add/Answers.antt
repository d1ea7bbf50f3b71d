use Rattle.std.proofs.Common.{arith, refl}
use Rattle.certify.specs.declared.paths.Paths.{Paths}
use Rattle.certify.proofs.PathLaws.{placed}
use Rattle.certify.proofs.paths.Paths.add.Goals as goal

pub returns-clause-paths : goal.returns-clause-paths
returns-clause-paths c =
    let t : Paths = record { entries = c.learn.new.self.entries; places = c.push.new.self; kinds = c.learn.new.self.kinds } in
    placed c.args.self.now c.learn.new.self t c.args.from c.args.next c.in_ok-chain.chain c.in_ok-chain.depth c.requires.paths
    c.requires.from c.requires.values c.in_ok-chain.ensures.learned
    (omega (arith, c.if-number-ge-MAX_NODES.false, c.len-number.ensures)) refl c.in_ok-push.ensures.items
