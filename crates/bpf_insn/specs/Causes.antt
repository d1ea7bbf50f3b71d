-- What the kernel refuses an instruction for, whatever stands around it (the kernel's
-- bpf_check_classic and seccomp_check_filter).
use Rattle.std.specs.Prelude.{ℕ, ◌≡◌, ◌≢◌, ◌≤◌, ◌⊎◌, ◌%◌, Option, Some, None}
use Rattle.bpf_insn.specs.declared.code.Operation.{Operation}
use Rattle.bpf_insn.specs.declared.code.Operation.TheVariants.{LoadWord, LoadScratch, LoadScratchX, Store, StoreX, ShiftLeft, ShiftRight}
use Rattle.bpf_insn.specs.declared.instruction.Insn.{Insn}
use Rattle.bpf_insn.specs.Code.{operation_of}

-- the code is not listed
abbrev pub IsUnlisted : Insn → Type 0
IsUnlisted i = operation_of i.code ≡ None

-- this number names no word that an operation can read or write: by its byte none of the sixteen of the
-- record, or none of the sixteen scratch words (BPF_MEMWORDS)
abbrev pub NamesNoWord : Option Operation → ℕ → Type 0
NamesNoWord (Some LoadWord) k = (64 ≤ k) ⊎ (k % 4 ≢ 0)
NamesNoWord (Some LoadScratch) k = 16 ≤ k
NamesNoWord (Some LoadScratchX) k = 16 ≤ k
NamesNoWord (Some Store) k = 16 ≤ k
NamesNoWord (Some StoreX) k = 16 ≤ k
NamesNoWord _ k = ⊥

-- a load from no word of the record, or a load or store of no scratch word
abbrev pub IsBadLoad : Insn → Type 0
IsBadLoad i = NamesNoWord (operation_of i.code) i.k

-- a shift by 32 bits or more
abbrev pub IsBadShift : Insn → Type 0
IsBadShift i = ((operation_of i.code ≡ Some ShiftLeft) ⊎ (operation_of i.code ≡ Some ShiftRight)) × (32 ≤ i.k)

-- none of these stands, so the instruction runs whatever A and X hold, if a scratch word that it reads
-- is written
pub record IsPlain (i : Insn) : Type 0 where
  pub listed : IsUnlisted i → ⊥
  pub loads : IsBadLoad i → ⊥
  pub shifts : IsBadShift i → ⊥

-- the instruction reads a scratch word
abbrev pub ReadsScratch : Insn → Type 0
ReadsScratch i = (operation_of i.code ≡ Some LoadScratch) ⊎ (operation_of i.code ≡ Some LoadScratchX)

-- the instruction writes a scratch word
abbrev pub WritesScratch : Insn → Type 0
WritesScratch i = (operation_of i.code ≡ Some Store) ⊎ (operation_of i.code ≡ Some StoreX)
