-- Those so far and those that are left are the first ones, and whatever is like a call so far is like one of them.
use Rattle.std.proofs.Common.{◌≡◌, ◌++◌, [], drop, take}
use Rattle.strace_logs.specs.Replayed.{firsts_behind}
use Rattle.strace_logs.specs.inner.Refusals.{HaveAlike}
use Rattle.strace_logs.specs.inner.Views.{all_refused}
use Rattle.strace_logs.proofs.refusals.firsts_of.Given as goal

abbrev pub invariant-loop-call : goal.invariant-loop-call
invariant-loop-call l = record {
  left : all_refused l.firsts.items ++ firsts_behind (take l.call-index (all_refused l.calls)) (drop l.call-index (all_refused l.calls))
      ≡ firsts_behind [] (all_refused l.calls);
  alike : HaveAlike (all_refused l.firsts.items) (take l.call-index (all_refused l.calls));
}
