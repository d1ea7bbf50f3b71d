-- One of them is like it just where one of those that are left is.
use Rattle.std.proofs.Common.{◌≡◌, drop}
use Rattle.std.specs.List.{list_any}
use Rattle.strace_logs.specs.Replayed.{is_alike}
use Rattle.strace_logs.specs.inner.Views.{all_refused, refused}
use Rattle.strace_logs.proofs.refusals.has_alike.Given as goal

abbrev pub invariant-loop-call : goal.invariant-loop-call
invariant-loop-call l =
    list_any (λ call. is_alike call (refused l.other)) (all_refused (drop l.call-index l.calls))
    ≡ list_any (λ call. is_alike call (refused l.other)) (all_refused l.calls)
