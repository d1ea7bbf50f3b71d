use Rattle.std.proofs.Common.{ℕ, ◌<◌}
use Rattle.std.specs.Prelude.{slice_index_or}
use Rattle.machines.specs.declared.numbers.Numbers.{Numbers}
use Rattle.certify.specs.inner.Leaf.{BeginsWithin}
use Rattle.certify.proofs.calls.middle.Given as goal

abbrev pub invariant-loop-numbers : goal.invariant-loop-numbers
invariant-loop-numbers l = (k : ℕ) (d : Numbers) → k < l.numbers-index → BeginsWithin l.low l.high (slice_index_or l.foreign k d) → ⊥
