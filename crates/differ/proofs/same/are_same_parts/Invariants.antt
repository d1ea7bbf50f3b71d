use Rattle.std.proofs.Common.{◌≡◌, take}
use Rattle.differ.proofs.same.are_same_parts.Given as goal

abbrev pub invariant-loop-i : goal.invariant-loop-i
invariant-loop-i l = take l.i l.these ≡ take l.i l.those
