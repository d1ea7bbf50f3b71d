use Rattle.std.proofs.Common.{◌≡◌, ◌++◌, drop}
use Rattle.std.specs.Prelude.{string_bytes}
use Rattle.std.specs.List.{flat_map}
use Rattle.compare.specs.Outcome.{crowded_line}
use Rattle.compare.proofs.text.put_all_crowded.Given as goal

abbrev pub invariant-loop-call : goal.invariant-loop-call
invariant-loop-call l = string_bytes l.text ++ flat_map crowded_line (drop l.call-index l.calls) ≡ string_bytes l.fn.text
    ++ flat_map crowded_line l.calls
