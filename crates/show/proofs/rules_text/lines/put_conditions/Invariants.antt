-- What is told, and what is to be told of the conditions that are left, is all.
use Rattle.std.proofs.Common.{◌≡◌, ◌++◌, drop}
use Rattle.std.specs.Prelude.{string_bytes}
use Rattle.std.specs.List.{flat_map}
use Rattle.show.specs.Text.{condition_text}
use Rattle.show.proofs.rules_text.lines.put_conditions.Given as goal

abbrev pub invariant-loop-cond : goal.invariant-loop-cond
invariant-loop-cond l =
    string_bytes l.text ++ flat_map condition_text (drop l.cond-index l.conds)
    ≡ string_bytes l.fn.text ++ flat_map condition_text l.conds
