use Rattle.std.proofs.Common.{◌≡◌, take, map}
use Rattle.filter_c.specs.Parts.{added_condition, kept_condition}
use Rattle.filter_c.proofs.added.condition.conditions_of.Given as goal

abbrev pub invariant-loop-part : goal.invariant-loop-part
invariant-loop-part l = map kept_condition l.conds.items ≡ map added_condition (take l.part-index l.given)
