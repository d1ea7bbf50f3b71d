use Rattle.std.proofs.Common.{◌≡◌, ◌++◌, drop, length, map}
use Rattle.profile_json.specs.Parts.{rule_parts}
use Rattle.profile_json.specs.inner.View.{entry_parts}
use Rattle.profile_json.specs.Rules.{rules_of, ends_after}
use Rattle.profile_json.proofs.rules.rules_of.Given as goal

abbrev pub invariant-loop-entry : goal.invariant-loop-entry
invariant-loop-entry l = record {
  said : map rule_parts l.list.items ++ rules_of l.machines (map entry_parts (drop l.entry-index l.entries)) ≡ rules_of l.machines
      (map entry_parts l.entries);
  ends : l.ends.items ++ ends_after (length l.list.items) l.machines (map entry_parts (drop l.entry-index l.entries)) ≡ ends_after 0
      l.machines (map entry_parts l.entries);
}
