use Rattle.std.proofs.Common.{◌≡◌, ◌++◌, drop}
use Rattle.recover_others.specs.inner.Guard as spec
use Rattle.recover_others.proofs.other_calls.turned.put_turned.Given as goal

abbrev pub invariant-loop-insn : goal.invariant-loop-insn
invariant-loop-insn l = l.all.items ++ spec.turned (drop l.insn-index l.program) ≡ l.fn.all.items ++ spec.turned l.program
