use Rattle.std.proofs.Common.{length}
use Rattle.together.specs.OnCall.{AreSamples, AreWays}
use Rattle.together.proofs.samples.samples_of.Given as goal

abbrev pub invariant-loop-index : goal.invariant-loop-index
invariant-loop-index l = record {
  are : AreSamples l.profiles l.joined l.call l.index l.list.items;
  ways : AreWays l.profiles l.joined l.call l.index (length l.list.items);
}
