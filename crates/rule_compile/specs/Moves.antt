-- What an instruction of the filter of a profile without conditions does. Such a filter tells calls apart by their number and
-- their machine's token alone (words 0 and 1 of struct seccomp_data). It is of five instructions.
use Rattle.std.specs.Prelude.{ℕ, ◌==◌, if◌then◌else◌, Option, Some, None}
use Rattle.bpf_insn.specs.declared.code.Operand.TheVariants.{K}
use Rattle.bpf_insn.specs.declared.code.Test.{Test}
use Rattle.bpf_insn.specs.declared.code.Test.TheVariants.{Equal, AtLeast}
use Rattle.bpf_insn.specs.declared.code.Operation.{Operation}
use Rattle.bpf_insn.specs.declared.code.Operation.TheVariants.{LoadWord, ReturnK, Jump, Branch}

-- The run ends by a verdict. Or it goes on past some instructions, with this word of the record in A or with none. Or it
-- compares this word of the record, and goes on by one of two targets.
pub data Move : Type 0 where
  Ends : (word : ℕ) → Move
  Goes : (skip : ℕ) → (held : Option ℕ) → Move
  Forks : (test : Test) → (held : ℕ) → Move

-- by the operation, its number, and the word of the record that A holds: any other instruction makes no move
abbrev pub move_at : Option Operation → ℕ → Option ℕ → Option Move
move_at (Some ReturnK) k held = Some (Ends k)
move_at (Some Jump) k held = Some (Goes k held)
move_at (Some LoadWord) k held = if k == 0 then Some (Goes 0 (Some 0)) else if k == 4 then Some (Goes 0 (Some 1)) else None
move_at (Some (Branch Equal K)) k (Some w) = Some (Forks Equal w)
move_at (Some (Branch AtLeast K)) k (Some w) = Some (Forks AtLeast w)
move_at _ k held = None
