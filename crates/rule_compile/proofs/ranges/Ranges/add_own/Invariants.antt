use Rattle.std.specs.Prelude.{ℕ, ◌≡◌, ◌≤◌, ◌-◌}
use Rattle.rule_compile.specs.Shape.{IsPlain}
use Rattle.rule_compile.specs.inner.Noted.{AreCalls}
use Rattle.rule_compile.specs.inner.Numbers.{IsListed, Reached}
use Rattle.rule_compile.specs.inner.Stands.{AreSound, HasMore}
use Rattle.rule_compile.specs.inner.Told.{ToldSoFar}
use Rattle.rule_compile.proofs.ranges.Ranges.add_own.Given as goal

abbrev pub decreases-own : goal.decreases-own
decreases-own l = l.end - l.self.end

abbrev pub invariant-own : goal.invariant-own
invariant-own l = record {
  from : l.initial.self.end ≤ l.self.end;
  upto : l.self.end ≤ l.end;
  no_block : IsPlain l.profile → l.blocks ≡ l.initial.blocks;
  reached : (most : ℕ) → 513 ≤ most → Reached l.profile l.machine most l.end l.initial.self.end l.initial.self.ranges.items
      → Reached l.profile l.machine most l.end l.self.end l.self.ranges.items;
  sound : AreSound l.blocks;
  more : HasMore l.initial.blocks.blocks.items l.blocks.blocks.items;
  told : ToldSoFar l.profile l.machine l.initial.blocks.blocks.items l.initial.self.end l.initial.self.ranges.items
      → ToldSoFar l.profile l.machine l.blocks.blocks.items l.self.end l.self.ranges.items;
  calls : IsListed l.profile l.machine → AreCalls l.profile l.initial.blocks → AreCalls l.profile l.blocks;
}
