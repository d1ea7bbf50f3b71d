use Rattle.std.specs.Prelude.{⊤}
use Rattle.cert_check.proofs.judging.Agreement.agrees_as_before.Given as goal

abbrev pub invariant-loop-k : goal.invariant-loop-k
invariant-loop-k g l = ⊤
