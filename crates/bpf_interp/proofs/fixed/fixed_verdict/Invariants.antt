-- A moment of the run where two words are known.
use Rattle.std.proofs.Common.{ℕ, ◌-◌, ◌∷◌, [], length}
use Rattle.bpf_insn.specs.Program.{insns}
use Rattle.bpf_interp.specs.inner.Moment.{IsMoment}
use Rattle.bpf_interp.specs.inner.Step.{state_of}
use Rattle.bpf_interp.proofs.fixed.fixed_verdict.Given as goal

abbrev pub invariant-run : goal.invariant-run
invariant-run l = (count : ℕ) × IsMoment (insns l.program) (l.nr ∷ l.arch ∷ []) count l.pc (state_of l.registers)

abbrev pub decreases-run : goal.decreases-run
decreases-run l = length (insns l.program) - l.pc
