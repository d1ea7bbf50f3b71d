use Rattle.std.proofs.Common.{◌≡◌, ◌++◌, map, take}
use Rattle.std.specs.Prelude.{Some, string_bytes}
use Rattle.call_words.specs.Lines.{call_lines}
use Rattle.call_words.proofs.constant_names.lines.add_conditions.Given as goal

abbrev pub invariant-loop-cond : goal.invariant-loop-cond
invariant-loop-cond l =
    map string_bytes l.lines.items ≡ map string_bytes l.fn.lines.items ++ call_lines (Some l.call) (take l.cond-index l.conds)
