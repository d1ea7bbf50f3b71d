use Rattle.std.proofs.Common.{◌≡◌, ◌≤◌, ◌+◌, ◌++◌, false, length}
use Rattle.std.specs.Prelude.{string_bytes}
use Rattle.compare.specs.LintTold.{argument_text, arguments_from}
use Rattle.compare.proofs.lint.arguments.put_arguments.Given as goal

abbrev pub invariant-loop-wholes : goal.invariant-loop-wholes
invariant-loop-wholes l = record {
  few : l.index + length l.wholes ≤ 6;
  told : string_bytes l.text ++ arguments_from (argument_text l.way l.past.word l.past.cleared_word) l.begun l.index l.wholes l.reads
      ≡ string_bytes l.fn.text ++ arguments_from (argument_text l.way l.past.word l.past.cleared_word) false 0 l.initial.wholes l.initial.reads;
}

abbrev pub decreases-loop-wholes : goal.decreases-loop-wholes
decreases-loop-wholes l = length l.wholes
