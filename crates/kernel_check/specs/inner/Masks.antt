-- The table of masks that the check fills: a mask of sixteen bits for each position.
use Rattle.std.specs.Prelude.{ℕ, ◌≡◌, ◌<◌, List, length, Some, slice_get, slice_index}
use Rattle.std.specs.Int.{bit_at}
use Rattle.bpf_insn.specs.declared.instruction.Insn.{Insn}
use Rattle.bpf_insn.specs.Bytes.{max_insns}
use Rattle.kernel_check.specs.declared.fault.Cause.{Cause}
use Rattle.kernel_check.specs.declared.fault.Cause.TheVariants.{Scratch}
use Rattle.kernel_check.specs.Accepted.{HasCause}
use Rattle.kernel_check.specs.Paths.{HandsOn, Unwritten}

-- no cause but Scratch stands anywhere
abbrev pub OnlyScratch : List Insn → Type 0
OnlyScratch p = (i : ℕ) (k : Cause) → HasCause p i k → k ≡ Scratch

-- the mask of a position has the scratch word
abbrev pub IsMarked : List ℕ → ℕ → ℕ → Type 0
IsMarked masks i w = bit_at (slice_index masks i) w ≡ 1

-- the masks say of each position what may be unwritten there by way of the positions so far
pub record AreMasks (p : List Insn) (masks : List ℕ) (so_far : ℕ) : Type 0 where
  pub size : length masks ≡ max_insns
  pub sound : (j w : ℕ) → w < 16 → IsMarked masks j w → Unwritten p w j
  pub first : (w : ℕ) → w < 16 → IsMarked masks 0 w
  pub handed : (i j w : ℕ) (insn : Insn) → i < so_far → w < 16 → Unwritten p w i → slice_get p i ≡ Some insn
      → HandsOn insn w i j → IsMarked masks j w
