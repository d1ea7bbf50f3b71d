-- What a run of an accepted program holds at a position.
use Rattle.std.specs.Prelude.{ℕ, ◌≡◌, List, length, Some, None, slice_get}
use Rattle.bpf_insn.specs.declared.instruction.Insn.{Insn}
use Rattle.bpf_insn.specs.Machine.{Registers}
use Rattle.kernel_check.specs.Paths.{Unwritten}

-- sixteen scratch words, of which those that are not written may be unwritten at the position
pub record FitsPath (p : List Insn) (pc : ℕ) (s : Registers) : Type 0 where
  pub size : length s.scratch ≡ 16
  pub path : (w : ℕ) → slice_get s.scratch w ≡ Some None → Unwritten p w pc
