-- A moment of the kernel's asking.
use Rattle.std.proofs.Common.{ℕ, ◌-◌, ◌∷◌, [], length}
use Rattle.bpf_insn.specs.Program.{insns}
use Rattle.show.specs.inner.Asking.{IsAsked, holding}
use Rattle.show.proofs.answered.verdict_asked.Given as goal

abbrev pub invariant-run : goal.invariant-run
invariant-run l = (count : ℕ) × IsAsked (insns l.program) (l.nr ∷ l.arch ∷ []) count l.pc (holding l.a)

abbrev pub decreases-run : goal.decreases-run
decreases-run l = length (insns l.program) - l.pc
