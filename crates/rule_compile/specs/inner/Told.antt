-- What is known of the ranges of a machine's numbers, and of the code of its calls.
use Rattle.std.specs.Prelude.{ℕ, List, length}
use Rattle.std.specs.List.{All}
use Rattle.machines.specs.declared.arch.Arch.{Arch}
use Rattle.machines.specs.Arch.{token_of}
use Rattle.profile.specs.Policy.{Policy}
use Rattle.rule_compile.specs.declared.outline.Block.{Block}
use Rattle.rule_compile.specs.declared.ranges.Range.{Range}
use Rattle.rule_compile.specs.Decides.{Tiles}
use Rattle.rule_compile.specs.inner.Numbers.{IsListed}
use Rattle.rule_compile.specs.inner.Runs.{AreBefore}
use Rattle.rule_compile.specs.inner.Stands.{DecidesCalls}

-- the ranges so far, up to a number, decide the calls of the machine as the profile does
pub record ToldSoFar (policy : Policy) (machine : Arch) (blocks : List Block) (upto : ℕ) (ranges : List Range) : Type 0 where
  pub tiles : Tiles 0 ranges upto
  pub before : AreBefore (length blocks) ranges
  pub decides : IsListed policy machine → All (DecidesCalls policy (token_of machine) blocks) ranges
