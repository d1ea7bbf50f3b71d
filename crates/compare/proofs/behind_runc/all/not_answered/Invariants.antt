use Rattle.std.proofs.Common.{ℕ, List}
use Rattle.std.specs.List.{All}
use Rattle.machines.specs.declared.arch.Arch.{Arch}
use Rattle.compare.specs.Behind.{IsNotAnswered}
use Rattle.compare.specs.Counterexamples.{AllRefute}
use Rattle.compare.proofs.behind_runc.all.not_answered.Given as goal

abbrev pub invariant-loop-found : goal.invariant-loop-found
invariant-loop-found l = record {
  left : All (IsNotAnswered l.answered) l.left.items;
  refute : (native : Arch) (bundle filter : List ℕ) → AllRefute native bundle filter l.all → AllRefute native bundle filter l.left.items;
}
