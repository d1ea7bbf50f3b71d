-- The rules so far are named.
use Rattle.std.proofs.Common.{ℕ, List, take}
use Rattle.std.specs.List.{All}
use Rattle.machines.specs.declared.arch.Arch.{Arch}
use Rattle.strace_logs.specs.inner.Seen.{AreSeen}
use Rattle.strace_logs.specs.Learned.{IsNamed}
use Rattle.strace_logs.proofs.judging.are_named.Given as goal

abbrev pub invariant-loop-rule : goal.invariant-loop-rule
invariant-loop-rule l =
    (native : Arch) (texts : List (List ℕ)) → AreSeen native texts l.calls → All (IsNamed native texts l.runtime) (take l.rule-index l.rules)
