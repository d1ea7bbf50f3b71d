use Rattle.std.proofs.Common.{ℕ, ◌-◌, ◌<◌, ◌≤◌}
use Rattle.cert_check.specs.Several.{IsSaidOf}
use Rattle.cert_check.proofs.several.are_said_of.Given as goal

abbrev pub invariant-loop-nr : goal.invariant-loop-nr
invariant-loop-nr l = record {
  from : l.low ≤ l.nr;
  up : l.nr ≤ l.high;
  said : (k : ℕ) → l.low ≤ k → k < l.nr → IsSaidOf l.profile l.word l.arch k;
}

abbrev pub decreases-loop-nr : goal.decreases-loop-nr
decreases-loop-nr l = l.high - l.nr
