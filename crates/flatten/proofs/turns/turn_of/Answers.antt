use Rattle.std.proofs.Common.{◌++◌, ◌∙◌, sym}
use Rattle.flatten.proofs.TurnLaws.{answers, none_added}
use Rattle.flatten.proofs.turns.turn_of.Goals as goal

pub returns-then-all_give-clause-turn : goal.returns-then-all_give-clause-turn
returns-then-all_give-clause-turn c more =
    answers c.args.older.now (c.args.area.now.items ++ more) c.args.word c.first_answer-answer.result c.requires.plain
    (sym c.all_give.ensures ∙ c.if-all_give.true)

pub returns-then-all_give-clause-more : goal.returns-then-all_give-clause-more
returns-then-all_give-clause-more c = none_added c.args.area.now.items c.requires.area_plain c.requires.small
