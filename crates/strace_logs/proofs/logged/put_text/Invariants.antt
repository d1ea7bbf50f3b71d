-- The calls so far and those of the lines that are left are those of the text. The number is that of the next line.
use Rattle.std.proofs.Common.{◌≡◌, ◌+◌, ◌++◌, ◌≤◌, length}
use Rattle.wording.specs.Lines.{lines_of}
use Rattle.strace_logs.specs.Logged.{calls_from, calls_of}
use Rattle.strace_logs.specs.inner.Views.{all_logged}
use Rattle.strace_logs.proofs.logged.put_text.Given as goal

abbrev pub invariant-line : goal.invariant-line
invariant-line l = record {
  told : all_logged l.calls.items ++ calls_from l.native l.log l.number (lines_of l.rest)
      ≡ all_logged l.fn.calls.items ++ calls_of l.native (l.log, l.text);
  counted : l.number + length l.rest ≤ length l.text + 1;
}

abbrev pub decreases-line : goal.decreases-line
decreases-line l = length l.rest
