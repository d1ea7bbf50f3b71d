use Rattle.std.proofs.Common.{◌≡◌, ◌<◌, ◌≤◌, ◌-◌, ℕ, true}
use Rattle.differ.specs.Named.{is_named}
use Rattle.differ.proofs.named.unnamed.Given as goal

abbrev pub invariant-loop-numbers : goal.invariant-loop-numbers
invariant-loop-numbers l = record {
  from : l.numbers.first ≤ l.nr;
  to : l.nr ≤ l.numbers.last;
  before : (k : ℕ) → l.numbers.first ≤ k → k < l.nr → is_named l.list l.token k ≡ true;
}

abbrev pub decreases-loop-numbers : goal.decreases-loop-numbers
decreases-loop-numbers l = l.numbers.last - l.nr
