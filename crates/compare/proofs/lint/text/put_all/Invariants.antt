use Rattle.std.proofs.Common.{◌≡◌, ◌++◌, drop}
use Rattle.std.specs.Prelude.{string_bytes}
use Rattle.std.specs.List.{flat_map}
use Rattle.compare.specs.LintTold.{past_lines}
use Rattle.compare.proofs.lint.text.put_all.Given as goal

abbrev pub invariant-loop-past : goal.invariant-loop-past
invariant-loop-past l = string_bytes l.text ++ flat_map (past_lines l.way l.family l.all.rules.items l.all.ends.items) (drop l.past-index l.list)
    ≡ string_bytes l.fn.text ++ flat_map (past_lines l.way l.family l.all.rules.items l.all.ends.items) l.list
