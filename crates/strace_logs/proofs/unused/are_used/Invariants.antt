-- All are used just where all that are left are.
use Rattle.std.proofs.Common.{◌≡◌, drop}
use Rattle.std.specs.Prelude.{is_some, not}
use Rattle.std.specs.List.{list_all}
use Rattle.strace_logs.specs.inner.Views.{names_now}
use Rattle.strace_logs.proofs.unused.are_used.Given as goal

abbrev pub invariant-loop-name : goal.invariant-loop-name
invariant-loop-name l =
    list_all (λ name. not (is_some name)) (names_now (drop l.name-index l.names)) ≡ list_all (λ name. not (is_some name)) (names_now l.names)
