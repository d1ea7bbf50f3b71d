use Rattle.bpf_insn.specs.Program.{insns}
use Rattle.kernel_check.proofs.AcceptLemmas.{OnlyScratchBefore}
use Rattle.kernel_check.proofs.check.accept.Given as goal

-- nothing stands at the positions so far but Scratch
abbrev pub invariant-loop-i : goal.invariant-loop-i
invariant-loop-i l = OnlyScratchBefore (insns l.program) l.i
