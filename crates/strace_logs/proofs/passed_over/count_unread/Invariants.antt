-- The lines so far that are not read, and those of the lines that are left, are those of the text.
use Rattle.std.proofs.Common.{◌≡◌, ◌+◌, ◌≤◌, length}
use Rattle.strace_logs.specs.Unread.{count_unread}
use Rattle.strace_logs.proofs.passed_over.count_unread.Given as goal

abbrev pub invariant-line : goal.invariant-line
invariant-line l = record {
  left : l.count + count_unread l.native l.rest ≡ count_unread l.native l.text;
  few : l.count + length l.rest ≤ length l.text;
}

abbrev pub decreases-line : goal.decreases-line
decreases-line l = length l.rest
