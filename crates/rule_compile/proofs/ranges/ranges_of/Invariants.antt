use Rattle.std.specs.Prelude.{◌≡◌}
use Rattle.rule_compile.specs.Shape.{IsPlain}
use Rattle.rule_compile.specs.inner.Noted.{AreCalls}
use Rattle.rule_compile.specs.inner.Numbers.{Between, IsListed}
use Rattle.rule_compile.specs.inner.Stands.{AreSound, HasMore}
use Rattle.rule_compile.specs.inner.Told.{ToldSoFar}
use Rattle.rule_compile.proofs.ranges.ranges_of.Given as goal

abbrev pub invariant-loop-foreign : goal.invariant-loop-foreign
invariant-loop-foreign l = record {
  between : Between l.profile l.machine l.foreign-index l.ranges.end l.ranges.ranges.items;
  no_block : IsPlain l.profile → l.blocks ≡ l.initial.blocks;
  sound : AreSound l.blocks;
  more : HasMore l.initial.blocks.blocks.items l.blocks.blocks.items;
  calls : IsListed l.profile l.machine → AreCalls l.profile l.initial.blocks → AreCalls l.profile l.blocks;
  told : ToldSoFar l.profile l.machine l.blocks.blocks.items l.ranges.end l.ranges.ranges.items;
}
