-- The names so far and those that are left are all.
use Rattle.std.proofs.Common.{◌≡◌, ◌++◌, drop, map}
use Rattle.strace_logs.specs.Unused.{unused_name, unused_names}
use Rattle.strace_logs.specs.inner.Views.{names_now, uses_now}
use Rattle.strace_logs.proofs.unused.unused_names.Given as goal

abbrev pub invariant-loop-one : goal.invariant-loop-one
invariant-loop-one l =
    names_now l.names.items ++ map (unused_name (uses_now l.uses)) (uses_now (drop l.one-index l.uses)) ≡ unused_names (uses_now l.uses)
