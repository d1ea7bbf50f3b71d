use Rattle.std.specs.Prelude.{◌≡◌, ◌≤◌, ◌*◌, take}
use Rattle.rule_compile.specs.inner.Left.{weight}
use Rattle.rule_compile.proofs.measures.weight_of.Given as goal

abbrev pub invariant-loop-open : goal.invariant-loop-open
invariant-loop-open l = record {
  sum : l.sum ≡ weight (take l.open-index l.rules);
  most : l.sum ≤ 2 * l.open-index;
}
