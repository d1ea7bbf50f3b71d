-- The parts so far, in front of those that are left.
use Rattle.std.proofs.Common.{◌≡◌, ◌++◌, length}
use Rattle.json_lines.specs.Lines.{parts_by}
use Rattle.json_lines.specs.inner.Views.{texts}
use Rattle.json_lines.proofs.splitting.parts_of.Given as goal

abbrev pub invariant-part : goal.invariant-part
invariant-part l = parts_by l.end l.text ≡ texts l.parts.items ++ parts_by l.end l.rest

abbrev pub decreases-part : goal.decreases-part
decreases-part l = length l.rest
