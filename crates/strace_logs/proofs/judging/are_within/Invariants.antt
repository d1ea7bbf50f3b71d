-- The conditions so far look at no other bits.
use Rattle.std.proofs.Common.{take}
use Rattle.std.specs.List.{All}
use Rattle.strace_logs.specs.Taken.{IsWithin}
use Rattle.strace_logs.proofs.judging.are_within.Given as goal

abbrev pub invariant-loop-cond : goal.invariant-loop-cond
invariant-loop-cond l = All (IsWithin l.bits) (take l.cond-index l.conds)
