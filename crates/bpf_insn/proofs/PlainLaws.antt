-- What an instruction without a cause of its own may read, write and shift by.
use Rattle.std.proofs.Common.{◌≡◌, ℕ, ◌%◌, ◌<◌, ◌≤◌, ◌⊎◌, inl, inr, sym, subst}
use Rattle.std.specs.Prelude.{Some, Option}
use Rattle.std.proofs.lemmas.Bool.{cases_lt, cases_eq}
use Rattle.bpf_insn.specs.declared.code.Operation.{Operation}
use Rattle.bpf_insn.specs.declared.code.Operation.TheVariants.{LoadWord, LoadScratch, LoadScratchX, Store, StoreX, ShiftLeft, ShiftRight}
use Rattle.bpf_insn.specs.declared.instruction.Insn.{Insn}
use Rattle.bpf_insn.specs.Code.{operation_of}
use Rattle.bpf_insn.specs.Causes.{IsPlain, NamesNoWord, ReadsScratch, WritesScratch}

-- a number that is not too large is below the bound
below : (k bound : ℕ) → (bound ≤ k → ⊥) → k < bound
below k bound never = elim (cases_lt k bound) [ inl lt ↦ lt | inr le ↦ absurd (never le) ]

-- what an operation that names no bad word is known to be
named : (i : Insn) (op : Operation) → IsPlain i → operation_of i.code ≡ Some op → NamesNoWord (Some op) i.k → ⊥
named i op plain is bad =
    let P : Option Operation → Type 0 = λ o. NamesNoWord o i.k in
    plain.loads (subst P (sym is) bad)

-- a load is of a word of the record
pub plain-loads : (i : Insn) → IsPlain i → operation_of i.code ≡ Some LoadWord → (i.k < 64) × (i.k % 4 ≡ 0)
plain-loads i plain is =
    let never = named i LoadWord plain is in (
      below i.k 64 (λ bad. never (inl bad)),
      elim (cases_eq (i.k % 4) 0) [ inl e ↦ e | inr ne ↦ absurd (never (inr ne)) ],
    )

-- what is read is a scratch word
pub plain-reads : (i : Insn) → IsPlain i → ReadsScratch i → i.k < 16
plain-reads i plain (inl is) = below i.k 16 (named i LoadScratch plain is)
plain-reads i plain (inr is) = below i.k 16 (named i LoadScratchX plain is)

-- what is written is a scratch word
pub plain-writes : (i : Insn) → IsPlain i → WritesScratch i → i.k < 16
plain-writes i plain (inl is) = below i.k 16 (named i Store plain is)
plain-writes i plain (inr is) = below i.k 16 (named i StoreX plain is)

-- a shift is by less than 32 bits
pub plain-shifts : (i : Insn) → IsPlain i → (operation_of i.code ≡ Some ShiftLeft) ⊎ (operation_of i.code ≡ Some ShiftRight) → i.k < 32
plain-shifts i plain is = below i.k 32 (λ bad. plain.shifts (is, bad))
