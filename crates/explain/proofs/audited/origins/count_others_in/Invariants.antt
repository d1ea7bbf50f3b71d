-- The lines so far that tell of others, and those of the lines that are left, are those of the text.
use Rattle.std.proofs.Common.{◌≡◌, ◌+◌, ◌≤◌, length}
use Rattle.std.specs.Prelude.{map}
use Rattle.explain.specs.Audit.{count_of_others}
use Rattle.explain.specs.inner.Origins.{origin_of}
use Rattle.explain.proofs.audited.origins.count_others_in.Given as goal

abbrev pub invariant-line : goal.invariant-line
invariant-line l = record {
  left : l.count + count_of_others (map origin_of l.origins) l.rest ≡ count_of_others (map origin_of l.origins) l.text;
  few : l.count + length l.rest ≤ length l.text;
}

abbrev pub decreases-line : goal.decreases-line
decreases-line l = length l.rest
