use Rattle.std.proofs.Common.{◌≡◌, ℕ, true, take}
use Rattle.std.specs.List.{All, list_any}
use Rattle.differ.specs.Differences.{is_told}
use Rattle.differ.specs.declared.direction.Direction.{Direction}
use Rattle.compare.specs.Complete.{is_on}
use Rattle.compare.specs.Difference.{IsDifference}
use Rattle.compare.proofs.search.differences_of.Given as goal

abbrev pub invariant-loop-found : goal.invariant-loop-found
invariant-loop-found l = record {
  are : All (IsDifference l.family l.first l.second) l.list.items;
  on : (t n : ℕ) (d : Direction) → is_told (take l.found-index l.all) t n d ≡ true → list_any (is_on t n d) l.list.items ≡ true;
}
