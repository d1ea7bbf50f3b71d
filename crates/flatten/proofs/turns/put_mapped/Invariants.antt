use Rattle.std.proofs.Common.{◌≡◌, ◌++◌, drop}
use Rattle.flatten.specs.inner.Turns as spec
use Rattle.flatten.proofs.turns.put_mapped.Given as goal

abbrev pub invariant-loop-insn : goal.invariant-loop-insn
invariant-loop-insn l = l.area.items ++ spec.mapped l.word (drop l.insn-index l.older) ≡ l.fn.area.items ++ spec.mapped l.word l.older
