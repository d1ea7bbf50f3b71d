-- What is to be found is found in the logs that are left, and their calls are those that are left.
use Rattle.std.proofs.Common.{◌≡◌, ◌++◌, drop}
use Rattle.strace_logs.specs.Logged.{calls_in, first_none, parts_of}
use Rattle.strace_logs.specs.inner.Views.{all_logged}
use Rattle.strace_logs.proofs.logged.put_logs.Given as goal

abbrev pub invariant-loop-log : goal.invariant-loop-log
invariant-loop-log l = record {
  found : first_none l.native (parts_of (drop l.log-index l.logs)) ≡ first_none l.native (parts_of l.logs);
  told : all_logged l.calls.items ++ calls_in l.native (parts_of (drop l.log-index l.logs))
      ≡ all_logged l.fn.calls.items ++ calls_in l.native (parts_of l.logs);
}
