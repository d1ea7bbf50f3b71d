-- The uses so far and those that are left are all.
use Rattle.std.proofs.Common.{◌≡◌, ◌++◌, drop, map}
use Rattle.strace_logs.specs.Unused.{use_of}
use Rattle.strace_logs.specs.inner.Views.{all_logged, uses_now}
use Rattle.strace_logs.proofs.unused.uses_of.Given as goal

abbrev pub invariant-loop-rule : goal.invariant-loop-rule
invariant-loop-rule l =
    uses_now l.uses.items ++ map (use_of (all_logged l.calls)) (drop l.rule-index l.rules) ≡ map (use_of (all_logged l.calls)) l.rules
