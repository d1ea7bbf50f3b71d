-- Those so far and those that are left are all.
use Rattle.std.proofs.Common.{◌≡◌, ◌+◌, ◌≤◌, drop}
use Rattle.std.specs.Prelude.{count_by}
use Rattle.strace_logs.specs.Replayed.{is_left_call}
use Rattle.strace_logs.specs.inner.Views.{all_refused}
use Rattle.strace_logs.proofs.refusals.count_left.Given as goal

abbrev pub invariant-loop-call : goal.invariant-loop-call
invariant-loop-call l = record {
  all : l.count + count_by is_left_call (all_refused (drop l.call-index l.calls)) ≡ count_by is_left_call (all_refused l.calls);
  below : l.count ≤ l.call-index;
}
