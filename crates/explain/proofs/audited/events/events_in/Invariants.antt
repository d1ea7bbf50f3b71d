-- The events so far and those of the lines that are left are those of the text.
use Rattle.std.proofs.Common.{◌≡◌, ◌++◌, length}
use Rattle.explain.specs.Audit.{events_in}
use Rattle.explain.proofs.audited.events.events_in.Given as goal

abbrev pub invariant-line : goal.invariant-line
invariant-line l = l.events.items ++ events_in l.rest ≡ events_in l.text

abbrev pub decreases-line : goal.decreases-line
decreases-line l = length l.rest
