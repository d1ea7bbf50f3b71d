use Rattle.std.proofs.Common.{◌≡◌, ◌++◌, drop, map}
use Rattle.profile_json.specs.Parts.{rule_parts}
use Rattle.profile_json.specs.inner.View.{entry_parts}
use Rattle.profile_json.specs.Rules.{rules_under}
use Rattle.profile_json.proofs.rules.add_name.Given as goal

abbrev pub invariant-loop-arch : goal.invariant-loop-arch
invariant-loop-arch l =
    map rule_parts l.rules.items ++ rules_under (drop l.arch-index l.machines) (entry_parts l.entry) l.name
    ≡ map rule_parts l.fn.rules.items ++ rules_under l.machines (entry_parts l.entry) l.name
