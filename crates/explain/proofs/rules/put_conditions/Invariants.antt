use Rattle.std.proofs.Common.{◌≡◌, ◌++◌, drop}
use Rattle.std.specs.Prelude.{string_bytes}
use Rattle.std.specs.List.{flat_map}
use Rattle.explain.specs.Explanation.{condition_line}
use Rattle.explain.proofs.rules.put_conditions.Given as goal

abbrev pub invariant-loop-cond : goal.invariant-loop-cond
invariant-loop-cond l = string_bytes l.text ++ flat_map (condition_line l.narrow l.args) (drop l.cond-index l.conds) ≡ string_bytes l.fn.text
    ++ flat_map (condition_line l.narrow l.args) l.conds
