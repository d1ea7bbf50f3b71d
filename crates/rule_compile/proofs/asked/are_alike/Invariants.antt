use Rattle.std.proofs.Common.{ℕ, ◌<◌, length}
use Rattle.std.specs.Prelude.{slice_index_or}
use Rattle.rule_compile.specs.declared.asked.Open.{Open}
use Rattle.rule_compile.specs.inner.Left.{IsSame}
use Rattle.rule_compile.proofs.asked.are_alike.Given as goal

abbrev pub invariant-loop-this : goal.invariant-loop-this
invariant-loop-this l =
    (k : ℕ) (d e : Open) → k < length l.yielded → IsSame (slice_index_or l.these k d) (slice_index_or l.others k e)
