use Rattle.std.proofs.Common.{take}
use Rattle.bpf_insn.specs.Program.{insns}
use Rattle.flatten.specs.inner.Turns as spec
use Rattle.flatten.proofs.plain.unplain_at.Given as goal

abbrev pub invariant-loop-at : goal.invariant-loop-at
invariant-loop-at l = spec.ArePlain (take l.at (insns l.program))
