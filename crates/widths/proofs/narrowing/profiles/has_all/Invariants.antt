use Rattle.std.proofs.Common.{◌≤◌, length, take}
use Rattle.std.specs.List.{All, Contains}
use Rattle.widths.proofs.narrowing.profiles.has_all.Given as goal

abbrev pub invariant-loop-other : goal.invariant-loop-other
invariant-loop-other l = (l.near ≤ length l.rules) × All (Contains l.rules) (take l.other-index l.others)
