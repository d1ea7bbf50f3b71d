use Rattle.std.proofs.Common.{◌++◌, [], rules}
use Rattle.flatten.proofs.AboveLaws.{turned_at}
use Rattle.flatten.proofs.TurnLaws.{fits, none_added}
use Rattle.flatten.proofs.above.turned.Goals as goal

pub insn_of-requires-clause-fits : goal.insn_of-requires-clause-fits
insn_of-requires-clause-fits c =
    fits c.args.older.now (c.turn_at.new.area.items ++ []) c.args.insn.now.k c.in_ok-turn.turn (c.in_ok-turn.ensures.turn [])

pub returns-clause-turned : goal.returns-clause-turned
returns-clause-turned c more =
    turned_at c.args.older.now (c.turn_at.new.area.items ++ more) c.args.left c.args.insn.now c.insn_of.result c.in_ok-turn.turn (search rules)
    (c.in_ok-turn.ensures.turn more) c.insn_of.ensures

pub returns-then-not-is_return-clause-more : goal.returns-then-not-is_return-clause-more
returns-then-not-is_return-clause-more c = none_added c.args.area.now.items c.requires.area_plain c.requires.small
