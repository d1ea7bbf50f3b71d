use Rattle.std.proofs.Common.{ℕ, ◌<◌}
use Rattle.bpf_insn.specs.Program.{insns}
use Rattle.kernel_check.specs.declared.fault.Cause.TheVariants.{Scratch}
use Rattle.kernel_check.specs.Accepted.{HasCause}
use Rattle.kernel_check.specs.inner.Masks.{AreMasks}
use Rattle.kernel_check.proofs.scratch.first_unwritten_read.Given as goal

-- the masks are those of the positions so far, none of which reads an unwritten word
abbrev pub invariant-loop-i : goal.invariant-loop-i
invariant-loop-i l = record {
  masks : AreMasks (insns l.program) l.unwritten l.i;
  none : (j : ℕ) → j < l.i → HasCause (insns l.program) j Scratch → ⊥;
}
