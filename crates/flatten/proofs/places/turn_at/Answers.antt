use Rattle.std.proofs.Common.{subst}
use Rattle.std.specs.List.{Contains}
use Rattle.flatten.proofs.TurnLaws.{known_turn, none_added, turn_pushed}
use Rattle.flatten.proofs.SizeLaws.{never_long}
use Rattle.flatten.proofs.places.turn_at.Goals as goal

pub returns-in-Some-clause-turn : goal.returns-in-Some-clause-turn
returns-in-Some-clause-turn c =
    known_turn c.args.older.now c.args.area.now.items c.args.turns.now.items c.args.word c.in-Some.turn c.requires.turns
    (subst (λ l. Contains l (record { word = c.args.word; turn = c.in-Some.turn })) c.deref.ensures.value c.in-Some.ensures)

pub returns-in-Some-clause-more : goal.returns-in-Some-clause-more
returns-in-Some-clause-more c = none_added c.args.area.now.items c.requires.area_plain c.requires.small

pub returns-clause-turns : goal.returns-clause-turns
returns-clause-turns c =
    turn_pushed c.args.older.now c.args.area.now.items c.turn_of.new.area.items c.args.turns.now.items c.push.new.self.items c.args.word
    c.in_ok-turn.turn c.in_ok-turn.ensures.more c.requires.turns c.in_ok-turn.ensures.turn c.in_ok-push.ensures.items

pub returns-in_err-push-clause-long : goal.returns-in_err-push-clause-long
returns-in_err-push-clause-long c long = absurd (never_long c.from_residual-in_err-push.result c.from_residual-in_err-push.ensures.1 long)
