-- The rule is used just where it is by a call that is left.
use Rattle.std.proofs.Common.{◌≡◌, drop}
use Rattle.strace_logs.specs.Unused.{is_used}
use Rattle.strace_logs.specs.inner.Views.{all_logged}
use Rattle.strace_logs.proofs.unused.is_used.Given as goal

abbrev pub invariant-loop-call : goal.invariant-loop-call
invariant-loop-call l = is_used (all_logged (drop l.call-index l.calls)) l.rule ≡ is_used (all_logged l.calls) l.rule
