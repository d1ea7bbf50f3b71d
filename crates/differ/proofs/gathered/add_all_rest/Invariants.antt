use Rattle.std.proofs.Common.{take}
use Rattle.std.specs.List.{All}
use Rattle.differ.specs.Differences.{AreTold, IsCovered}
use Rattle.differ.specs.declared.direction.Direction.{Direction}
use Rattle.differ.specs.declared.direction.Direction.TheVariants.{Any}
use Rattle.differ.specs.inner.Extended.{Extends}
use Rattle.differ.proofs.gathered.add_all_rest.Given as goal

abbrev pub invariant-loop-call : goal.invariant-loop-call
invariant-loop-call l = record {
  told : AreTold l.first l.second Any l.initial.told → AreTold l.first l.second Any l.told;
  extends : Extends l.initial.told l.told;
  covered : All (λ call. (direction : Direction) → IsCovered l.first l.second l.told call.token call.nr direction) (take l.call-index l.list);
}
