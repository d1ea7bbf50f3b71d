use Rattle.std.proofs.Common.{◌≡◌, map, take}
use Rattle.std.specs.Prelude.{string_bytes}
use Rattle.std.specs.List.{flat_map}
use Rattle.call_words.specs.Lines.{rule_lines}
use Rattle.call_words.proofs.constant_names.lines.lines_of.Given as goal

abbrev pub invariant-loop-rule : goal.invariant-loop-rule
invariant-loop-rule l = map string_bytes l.lines.items ≡ flat_map rule_lines (take l.rule-index l.rules)
