use Rattle.std.proofs.Common.{◌≡◌, ◌++◌, drop}
use Rattle.std.specs.Prelude.{None, string_bytes}
use Rattle.explain.specs.Any.{lines_from}
use Rattle.explain.proofs.audited.lines.put_rules.Given as goal

abbrev pub invariant-loop-place : goal.invariant-loop-place
invariant-loop-place l =
    string_bytes l.text ++ lines_from l.last l.place (drop l.place l.all.rules.items) l.all.ends.items l.token l.nr ≡ string_bytes l.fn.text
    ++ lines_from None 0 l.all.rules.items l.all.ends.items l.token l.nr
