-- One is used just where one that is left is.
use Rattle.std.proofs.Common.{◌≡◌, drop}
use Rattle.std.specs.Prelude.{is_some, not}
use Rattle.std.specs.List.{list_any}
use Rattle.strace_logs.specs.inner.Views.{names_now}
use Rattle.strace_logs.proofs.unused.is_part_used.Given as goal

abbrev pub invariant-loop-name : goal.invariant-loop-name
invariant-loop-name l =
    list_any (λ name. not (is_some name)) (names_now (drop l.name-index l.names)) ≡ list_any (λ name. not (is_some name)) (names_now l.names)
