use Rattle.std.proofs.Common.{◌≡◌, ◌++◌, drop}
use Rattle.std.specs.Prelude.{string_bytes}
use Rattle.std.specs.List.{flat_map}
use Rattle.compare.specs.Outcome.{machine_after}
use Rattle.compare.proofs.text.put_others.Given as goal

abbrev pub invariant-loop-other : goal.invariant-loop-other
invariant-loop-other l = string_bytes l.text ++ flat_map machine_after (drop l.other-index l.others) ≡ string_bytes l.fn.text
    ++ flat_map machine_after l.others
