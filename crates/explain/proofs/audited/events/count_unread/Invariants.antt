-- The lines so far that are not read, and those of the lines that are left, are those of the text.
use Rattle.std.proofs.Common.{◌≡◌, ◌+◌, ◌≤◌, length}
use Rattle.explain.specs.Audit.{count_unread}
use Rattle.explain.proofs.audited.events.count_unread.Given as goal

abbrev pub invariant-line : goal.invariant-line
invariant-line l = record {
  left : l.count + count_unread l.rest ≡ count_unread l.text;
  few : l.count + length l.rest ≤ length l.text;
}

abbrev pub decreases-line : goal.decreases-line
decreases-line l = length l.rest
