use Rattle.std.specs.Prelude.{ℕ, ◌≡◌, ◌≤◌, ◌<◌, ◌⊎◌, slice_index_or}
use Rattle.profile.specs.declared.rules.Rule.{Rule}
use Rattle.rule_compile.specs.inner.Numbers.{AreBelow, IsFor}
use Rattle.rule_compile.proofs.ranges.next_number.Given as goal

abbrev pub invariant-loop-rule : goal.invariant-loop-rule
invariant-loop-rule l = record {
  least : l.from ≤ l.next;
  most : l.next ≤ l.end;
  none : (k nr : ℕ) (d : Rule) → k < l.rule-index → l.from ≤ nr → nr < l.next → IsFor l.token nr (slice_index_or l.rules k d) → ⊥;
  small : (above : ℕ) → AreBelow above l.rules → (l.next < above) ⊎ (l.next ≡ l.end);
}
