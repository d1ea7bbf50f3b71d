-- The calls so far are allowed.
use Rattle.std.proofs.Common.{take}
use Rattle.std.specs.List.{All}
use Rattle.strace_logs.specs.Taken.{AllowsEach}
use Rattle.strace_logs.proofs.judging.allows_seen.Given as goal

abbrev pub invariant-loop-seen : goal.invariant-loop-seen
invariant-loop-seen l = All (AllowsEach l.profile) (take l.seen-index l.calls)
