-- What is told, and what is to be told of the rules that are left, is all.
use Rattle.std.proofs.Common.{◌≡◌, ◌++◌, drop}
use Rattle.std.specs.Prelude.{string_bytes}
use Rattle.std.specs.List.{flat_map}
use Rattle.show.specs.Text.{rule_line}
use Rattle.show.proofs.rules_text.lines.put_rules.Given as goal

abbrev pub invariant-loop-rule : goal.invariant-loop-rule
invariant-loop-rule l =
    string_bytes l.text ++ flat_map rule_line (drop l.rule-index l.rules) ≡ string_bytes l.fn.text ++ flat_map rule_line l.rules
