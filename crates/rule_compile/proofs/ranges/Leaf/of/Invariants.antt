use Rattle.std.specs.Prelude.{ℕ, ◌≡◌, ◌<◌, false, slice_index_or}
use Rattle.rule_compile.specs.declared.asked.Placed.{Placed}
use Rattle.rule_compile.specs.inner.Stands.{HaveNoCondition}
use Rattle.rule_compile.proofs.ranges.Leaf.of.Given as goal

abbrev pub invariant-loop-placed : goal.invariant-loop-placed
invariant-loop-placed l = record {
  unconditional : HaveNoCondition l.own → l.conditions ≡ false;
  default : l.conditions ≡ false → (k : ℕ) (d : Placed) → k < l.placed-index → (slice_index_or l.own k d).rule.now.word ≡ l.default;
}
