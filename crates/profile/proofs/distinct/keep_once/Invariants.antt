use Rattle.std.proofs.Common.{◌≤◌, take, length}
use Rattle.profile.specs.Policy.{most_rules}
use Rattle.profile.specs.inner.Kept.{KeepsAt}
use Rattle.profile.specs.inner.Places.{IsIndexOf}
use Rattle.profile.proofs.distinct.keep_once.Given as goal

abbrev pub invariant-loop-place : goal.invariant-loop-place
invariant-loop-place l =
    record {
      kept : KeepsAt (take (length l.yielded) l.fn.given.items) l.rules.items l.places.items;
      index : IsIndexOf l.rules.items l.index;
      few : length
          l.rules.items ≤ most_rules;
    }
