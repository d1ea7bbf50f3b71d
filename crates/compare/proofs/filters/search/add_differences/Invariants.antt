use Rattle.std.specs.List.{All}
use Rattle.kernel_check.specs.Lent.{accepted_insns}
use Rattle.compare.specs.Differ.{AnswerUnlike}
use Rattle.compare.proofs.filters.search.add_differences.Given as goal

abbrev pub invariant-loop-number : goal.invariant-loop-number
invariant-loop-number l = All (AnswerUnlike l.family (accepted_insns l.old) (accepted_insns l.new)) l.all.items
