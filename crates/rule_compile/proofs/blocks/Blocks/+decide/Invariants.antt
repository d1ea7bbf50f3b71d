use Rattle.std.specs.Prelude.{◌≡◌, ◌+◌, ◌*◌, None, vec_len}
use Rattle.rule_compile.specs.inner.Built.{IsReached}
use Rattle.rule_compile.specs.inner.Left.{AreStarts}
use Rattle.rule_compile.specs.inner.Runs.{IsBefore}
use Rattle.rule_compile.specs.inner.Stands.{AreRanged, AreSound, HasMore}
use Rattle.rule_compile.proofs.blocks.Blocks.+decide.Given as goal

abbrev pub decreases-decide : goal.decreases-decide
decreases-decide l = 2 * l.steps + 1

abbrev pub decreases-leaf_at : goal.decreases-leaf_at
decreases-leaf_at l = 2 * l.steps

abbrev pub invariant-decide-loop-place : goal.invariant-decide-loop-place
invariant-decide-loop-place l = record {
  sound : AreSound l.self;
  more : HasMore l.fn.self.blocks.items l.self.blocks.items;
  known : l.self.known.items ≡ l.fn.self.known.items;
  calls : l.self.calls.items ≡ l.fn.self.calls.items;
  other : IsBefore (vec_len l.self.blocks) l.other;
  starts : AreStarts l.rules l.subject l.start-items;
  reached : IsReached l.start-items l.place l.ranges.end;
  ranged : AreRanged l.self.blocks.items l.rules l.other l.subject l.ranges.ranges.items l.ranges.end;
  room : l.fn.self.room ≡ None → l.self.room ≡ None;
}
