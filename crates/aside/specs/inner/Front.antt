-- The instructions in front of a filter that pass over it on records of some calls.
use Rattle.std.specs.Prelude.{ℕ, ◌≡◌, List, [], ◌∷◌, Option}
use Rattle.std.specs.Option.{option_map}
use Rattle.bpf_insn.specs.declared.instruction.Insn.{Insn}
use Rattle.bpf_insn.specs.Machine.{ending, start, verdict_of}
use Rattle.call_record.specs.Words.{IsRecord}
use Rattle.compare.specs.declared.behind_runc.stub.calls.Calls.{Calls}
use Rattle.compare.specs.Stub.{IsOf}
use Rattle.aside.specs.Aside.{IsAside}

abbrev pub insn : ℕ → ℕ → ℕ → ℕ → Insn
insn code jt jf k = record { code = code; jt = jt; jf = jf; k = k }

-- a jump over so many instructions, on the records of these calls alone
abbrev pub front_of : Calls → ℕ → List Insn
front_of calls skip =
    insn 0x20 0 0 4 ∷ insn 0x15 0 4 calls.token
    ∷ insn 0x20 0 0 0 ∷ insn 0x35 0 2 calls.numbers.first ∷ insn 0x25 1 0 calls.numbers.last
    ∷ insn 0x05 0 0 skip ∷ []

-- the verdict that a program gives where A holds this at first
abbrev pub verdict_from : List Insn → ℕ → List ℕ → Option ℕ
verdict_from p a r = option_map (λ (end : ℕ × ℕ). end.0) (ending p 0 (record start { a = a }) r)

-- whatever A holds at first, the one program gives what the other gives
abbrev pub IsLike : List Insn → List Insn → Type 0
IsLike p q = (r : List ℕ) (a : ℕ) → verdict_from p a r ≡ verdict_from q a r

-- the same of what the other gives where A holds 0
abbrev pub IsFreed : List Insn → List Insn → Type 0
IsFreed p q = (r : List ℕ) (a : ℕ) → verdict_from p a r ≡ verdict_of q r

-- on each record that is not of these calls the one program gives the verdict that the other gives, whatever A holds
abbrev pub Passes : Calls → List Insn → List Insn → Type 0
Passes calls p q =
    (r : List ℕ) → IsRecord r → (IsOf r calls → ⊥) → (v : Option ℕ) → ((a : ℕ) → verdict_from q a r ≡ v) → (a : ℕ) → verdict_from p a r ≡ v

-- whatever A holds at first, the one program gives what the other gives, on each record that is of none of these calls
abbrev pub IsSameBut : List Calls → List Insn → List Insn → Type 0
IsSameBut aside p q = (r : List ℕ) → IsRecord r → (IsAside aside r → ⊥) → (a : ℕ) → verdict_from p a r ≡ verdict_of q r
