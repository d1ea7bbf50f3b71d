use Rattle.std.proofs.Common.{◌≡◌, ◌≤◌, ◌+◌, ◌++◌, false, length}
use Rattle.std.specs.Prelude.{string_bytes}
use Rattle.compare.specs.Outcome.{arguments_from}
use Rattle.compare.proofs.text.put_arguments.Given as goal

abbrev pub invariant-loop-args : goal.invariant-loop-args
invariant-loop-args l = record {
  few : l.index + length l.args ≤ 6;
  told : string_bytes l.text ++ arguments_from l.begun l.index l.asked l.args
      ≡ string_bytes l.fn.text ++ arguments_from false 0 l.initial.asked l.initial.args;
}

abbrev pub decreases-loop-args : goal.decreases-loop-args
decreases-loop-args l = length l.args
