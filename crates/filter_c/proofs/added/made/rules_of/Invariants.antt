use Rattle.std.proofs.Common.{◌≡◌, take, map}
use Rattle.filter_c.specs.Parts.{added_rule, kept_rule}
use Rattle.filter_c.proofs.added.made.rules_of.Given as goal

abbrev pub invariant-loop-place : goal.invariant-loop-place
invariant-loop-place l = map kept_rule l.rules.items ≡ map added_rule (take l.place l.given)
