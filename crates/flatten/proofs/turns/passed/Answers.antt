use Rattle.std.proofs.Common.{arith}
use Rattle.flatten.proofs.TurnLaws.{added_block, passes}
use Rattle.flatten.proofs.SizeLaws.{block_size}
use Rattle.flatten.proofs.turns.passed.Goals as goal

pub returns-clause-turn : goal.returns-clause-turn
returns-clause-turn c more =
    passes c.args.older.now c.args.area.now.items c.put_block.new.area.items more c.args.word c.len-at.result c.requires.plain
    (omega arith) (omega arith) c.in_ok-put_block.ensures.added

pub returns-clause-more : goal.returns-clause-more
returns-clause-more c =
    added_block c.args.older.now c.args.area.now.items c.put_block.new.area.items c.args.word c.requires.plain c.requires.area_plain c.in_ok-put_block.ensures.added (omega arith)

pub returns-then-len-gt-MAX_INSNS-clause-long : goal.returns-then-len-gt-MAX_INSNS-clause-long
returns-then-len-gt-MAX_INSNS-clause-long c _ =
    let size = block_size c.args.older.now c.args.area.now.items c.put_block.new.area.items c.args.word c.in_ok-put_block.ensures.added in
    omega (arith, size)

pub returns-clause-size : goal.returns-clause-size
returns-clause-size c =
    let size = block_size c.args.older.now c.args.area.now.items c.put_block.new.area.items c.args.word c.in_ok-put_block.ensures.added in
    omega (arith, size)
