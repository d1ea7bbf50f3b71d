-- The answer stands in the rules that are left.
use Rattle.std.proofs.Common.{◌≡◌, drop}
use Rattle.strace_logs.specs.Unused.{is_name_used}
use Rattle.strace_logs.specs.inner.Views.{uses_now}
use Rattle.strace_logs.proofs.unused.is_name_used.Given as goal

abbrev pub invariant-loop-one : goal.invariant-loop-one
invariant-loop-one l = is_name_used (uses_now l.uses) l.name ≡ is_name_used (uses_now (drop l.one-index l.uses)) l.name
