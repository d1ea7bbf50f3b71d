use Rattle.std.proofs.Common.{length}
use Rattle.filter_c.proofs.RuleLaws.{answers_what_was_added, lacks_room}
use Rattle.filter_c.proofs.rules.ccell_filter_for_rules.Goals as goal

pub returns-in-Ok-clause-made : goal.returns-in-Ok-clause-made
returns-in-Ok-clause-made c = λ zero.
    answers_what_was_added c.args.machines.now c.args.default_action c.args.rules.now c.in-Ok.profile c.in-Ok.ensures.ok _
    (c.put_filter.ensures.made zero)

pub returns-in-Ok-clause-room : goal.returns-in-Ok-clause-room
returns-in-Ok-clause-room c = λ two.
    lacks_room c.args.machines.now c.args.default_action c.args.rules.now c.in-Ok.profile c.in-Ok.ensures.ok (length c.args.out.now) _
    (c.put_filter.ensures.room two)

pub returns-in-Ok-clause-size : goal.returns-in-Ok-clause-size
returns-in-Ok-clause-size c = λ eleven. (c.in-Ok.profile, c.in-Ok.ensures.built, c.put_filter.ensures.size eleven)

pub returns-in-Ok-clause-built : goal.returns-in-Ok-clause-built
returns-in-Ok-clause-built c = λ zero. (c.in-Ok.profile, c.in-Ok.ensures.built)
