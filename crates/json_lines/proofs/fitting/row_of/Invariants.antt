-- No shape so far fits.
use Rattle.std.proofs.Common.{◌≡◌, length}
use denote.Text.{Utf8}
use denote.Shadow.{shadow}
use Rattle.json_lines.specs.Shapes as spec
use Rattle.json_lines.proofs.fitting.row_of.Given as goal

abbrev pub invariant-shape : goal.invariant-shape
invariant-shape l = (spec.text_row_of (spec.shapes_in l.shapes) l.line ≡ spec.text_row_of (spec.shapes_in l.left) l.line) × shadow (Utf8 l.left)

abbrev pub decreases-shape : goal.decreases-shape
decreases-shape l = length l.left
