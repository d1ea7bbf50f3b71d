use Rattle.std.proofs.Common.{List}
use Rattle.std.specs.List.{All}
use Rattle.machines.specs.declared.arch.Family.{Family}
use Rattle.bpf_insn.specs.declared.instruction.Insn.{Insn}
use Rattle.compare.specs.Differ.{AnswerUnlike}
use Rattle.compare.specs.FiltersTold.{IsUnlike}
use Rattle.compare.proofs.filters.outcome.changes_of.Given as goal

abbrev pub invariant-loop-found : goal.invariant-loop-found
invariant-loop-found l = (f : Family) (old new : List Insn) → All (AnswerUnlike f old new) l.fn.all → All (IsUnlike f old new) l.changes.items
