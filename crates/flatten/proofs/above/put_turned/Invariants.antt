use Rattle.std.proofs.Common.{◌≤◌, ◌+◌, ◌*◌, [], drop, length, take}
use Rattle.flatten.specs.Unflat.{returns_in}
use Rattle.flatten.specs.inner.Turns as spec
use Rattle.flatten.proofs.AboveLaws.{SoFar}
use Rattle.flatten.proofs.above.put_turned.Given as goal

abbrev pub invariant-loop-place : goal.invariant-loop-place
invariant-loop-place l = record {
  so_far : SoFar l.older l.area.items l.newer (drop l.place l.newer) l.program.items;
  turns : spec.AreTurns l.older l.area.items l.turns.items;
  more : spec.IsMore [] l.area.items;
  size : length l.area.items ≤ returns_in (take l.place l.newer) * (length l.older + 2);
}
