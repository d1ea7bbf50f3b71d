use Rattle.filter_c.proofs.MadeLaws.{no_part, no_rule}
use Rattle.filter_c.proofs.added.condition.rule_of.Goals as goal

pub returns-in_default-conditions_of-clause-none : goal.returns-in_default-conditions_of-clause-none
returns-in_default-conditions_of-clause-none c = no_part c.args.given c.in_default-conditions_of.ensures.none

pub returns-clause-none : goal.returns-clause-none
returns-clause-none c =
    no_rule c.args.given c.in-Some-conditions_of.conds.items c.new.result c.in-Some-conditions_of.ensures.some c.new.ensures.made.1
