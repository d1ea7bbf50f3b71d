use Rattle.std.proofs.Common.{◌≡◌, ◌++◌, drop, map}
use Rattle.std.specs.List.{flat_map}
use Rattle.profile_json.specs.Parts.{rule_parts}
use Rattle.profile_json.specs.inner.View.{entry_parts}
use Rattle.profile_json.specs.Rules.{rules_under}
use Rattle.profile_json.proofs.rules.add_entry.Given as goal

abbrev pub invariant-loop-name : goal.invariant-loop-name
invariant-loop-name l = map rule_parts l.rules.items
    ++ flat_map (rules_under l.machines (entry_parts l.entry)) (map (λ n. n.now) (drop l.name-index l.entry.names.items))
    ≡ map rule_parts l.fn.rules.items ++ flat_map (rules_under l.machines (entry_parts l.entry)) (map (λ n. n.now) l.entry.names.items)
