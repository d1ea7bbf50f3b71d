use Rattle.std.proofs.Common.{take}
use Rattle.std.specs.Prelude.{string_bytes}
use Rattle.compare.specs.Counterexamples.{AreLines}
use Rattle.compare.proofs.counterexamples.lines.lines_of.Given as goal

abbrev pub invariant-loop-found : goal.invariant-loop-found
invariant-loop-found l = AreLines (take l.found-index l.all) (string_bytes l.text)
