-- Those so far and the lines that are left give those of the text.
use Rattle.std.proofs.Common.{◌≡◌, length}
use Rattle.std.specs.Prelude.{map}
use Rattle.std.specs.List.{fold}
use Rattle.wording.specs.Lines.{lines_of}
use Rattle.explain.specs.Audit.{origins_in, with_line}
use Rattle.explain.specs.inner.Origins.{origin_of}
use Rattle.explain.proofs.audited.origins.origins_in.Given as goal

abbrev pub invariant-line : goal.invariant-line
invariant-line l = fold with_line (map origin_of l.origins.items) (lines_of l.rest) ≡ origins_in l.text

abbrev pub decreases-line : goal.decreases-line
decreases-line l = length l.rest
