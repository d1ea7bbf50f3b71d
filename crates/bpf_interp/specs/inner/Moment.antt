-- A moment of a run.
use Rattle.std.specs.Prelude.{ℕ, ◌≡◌, ◌<◌, ◌≤◌, List, length}
use Rattle.bpf_insn.specs.declared.instruction.Insn.{Insn}
use Rattle.bpf_insn.specs.Machine.{Registers, ending, start}
use Rattle.bpf_insn.proofs.RunLaws.{counted}
use Rattle.kernel_check.specs.inner.Registers.{FitsPath}

-- so many instructions were run, and the whole run ends as what is left of it does
pub record IsMoment (p : List Insn) (r : List ℕ) (count pc : ℕ) (s : Registers) : Type 0 where
  pub within : pc < length p
  pub few : count ≤ pc
  pub path : FitsPath p pc s
  pub same : ending p 0 start r ≡ counted count (ending p pc s r)
