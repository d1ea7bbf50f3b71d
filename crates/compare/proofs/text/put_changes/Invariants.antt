use Rattle.std.proofs.Common.{◌≡◌, ◌++◌, drop}
use Rattle.std.specs.Prelude.{string_bytes}
use Rattle.std.specs.List.{flat_map}
use Rattle.compare.specs.Outcome.{line_of}
use Rattle.compare.proofs.text.put_changes.Given as goal

abbrev pub invariant-loop-change : goal.invariant-loop-change
invariant-loop-change l = string_bytes l.text ++ flat_map line_of (drop l.change-index l.changes) ≡ string_bytes l.fn.text
    ++ flat_map line_of l.changes
