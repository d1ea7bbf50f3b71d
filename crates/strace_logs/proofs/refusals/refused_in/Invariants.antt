-- The calls so far and those that are left are those that are refused.
use Rattle.std.proofs.Common.{◌≡◌, ◌++◌, drop}
use Rattle.strace_logs.specs.Replayed.{refused_in}
use Rattle.strace_logs.specs.inner.Views.{all_logged, all_refused}
use Rattle.strace_logs.proofs.refusals.refused_in.Given as goal

abbrev pub invariant-loop-one : goal.invariant-loop-one
invariant-loop-one l =
    all_refused l.calls.items ++ refused_in l.profile l.all.rules.items l.all.ends.items (all_logged (drop l.one-index l.shown))
    ≡ refused_in l.profile l.all.rules.items l.all.ends.items (all_logged l.shown)
