use Rattle.std.proofs.Common.{◌≡◌, ◌++◌, drop}
use Rattle.std.specs.Prelude.{string_bytes}
use Rattle.std.specs.List.{flat_map}
use Rattle.compare.specs.StubTold.{calls_line}
use Rattle.compare.proofs.behind_runc.text.put_each.Given as goal

abbrev pub invariant-loop-calls : goal.invariant-loop-calls
invariant-loop-calls l = string_bytes l.text ++ flat_map (calls_line l.family) (drop l.calls-index l.answered)
    ≡ string_bytes l.fn.text ++ flat_map (calls_line l.family) l.answered
