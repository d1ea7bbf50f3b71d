-- The paths through a program, and which scratch words may be unwritten on them (the kernel's
-- check_load_and_stores). A path begins at position 0 and may take either target of a jump, whatever is
-- compared. The kernel's own check also goes on past a return, in the order of the code, and so may
-- refuse more.
use Rattle.std.specs.Prelude.{ℕ, ◌≡◌, ◌+◌, ◌⊎◌, List, Option, Some, slice_get}
use Rattle.bpf_insn.specs.declared.code.Operation.{Operation}
use Rattle.bpf_insn.specs.declared.code.Operation.TheVariants.{ReturnK, ReturnA, Jump, Branch}
use Rattle.bpf_insn.specs.declared.instruction.Insn.{Insn}
use Rattle.bpf_insn.specs.Code.{operation_of}
use Rattle.bpf_insn.specs.Causes.{WritesScratch}

-- from position i an instruction leads to this one. A jump leads to any of its targets, a return nowhere,
-- and any other to the next position
abbrev pub LeadsTo : Option Operation → ℕ → Insn → ℕ → Type 0
LeadsTo (Some Jump) i insn next = next ≡ i + 1 + insn.k
LeadsTo (Some (Branch test c)) i insn next = (next ≡ i + 1 + insn.jt) ⊎ (next ≡ i + 1 + insn.jf)
LeadsTo (Some ReturnK) i insn next = ⊥
LeadsTo (Some ReturnA) i insn next = ⊥
LeadsTo _ i insn next = next ≡ i + 1

-- the instruction writes this scratch word
abbrev pub WritesWord : Insn → ℕ → Type 0
WritesWord insn w = WritesScratch insn × (insn.k ≡ w)

-- from position i the instruction leads to the next one, and does not write the word
abbrev pub HandsOn : Insn → ℕ → ℕ → ℕ → Type 0
HandsOn insn w i next = (WritesWord insn w → ⊥) × LeadsTo (operation_of insn.code) i insn next

-- some path leads to the position and writes the word nowhere before it
pub data Unwritten (p : List Insn) (w : ℕ) : ℕ → Type 0 where
  at_first : Unwritten p w 0
  handed_on : (i next : ℕ) (insn : Insn) → Unwritten p w i → slice_get p i ≡ Some insn → HandsOn insn w i next
      → Unwritten p w next
