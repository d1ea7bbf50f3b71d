-- The members so far, in front of those of the marks that are left.
use Rattle.std.proofs.Common.{◌≡◌, length}
use denote.Text.{Utf8}
use denote.Shadow.{shadow}
use Rattle.json_lines.specs.Shapes as spec
use Rattle.json_lines.specs.inner.Views.{members}
use Rattle.json_lines.proofs.Fits.{marks_of, prepended}
use Rattle.json_lines.proofs.fitting.members_of.Given as goal

abbrev pub invariant-mark : goal.invariant-mark
invariant-mark l = (spec.members_of (marks_of l.marks) l.text ≡ prepended (members l.members.items) (spec.members_of (marks_of l.left) l.rest))
    × shadow (Utf8 l.left) × shadow (Utf8 l.rest)

abbrev pub decreases-mark : goal.decreases-mark
decreases-mark l = length l.left
