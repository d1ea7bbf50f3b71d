-- How a filter compares what it has loaded. It compares a number only after a word of the record was loaded, and by order only
-- the whole word. So on each way through the filter a comparison tells of one word of the record just what it asks.
use Rattle.std.specs.Prelude.{◌≡◌, ⊤, ℕ, zero, suc, List, [], ◌∷◌, Option, Some}
use Rattle.bpf_insn.specs.declared.code.Operand.TheVariants.{K}
use Rattle.bpf_insn.specs.declared.code.Test.{Test}
use Rattle.bpf_insn.specs.declared.code.Test.TheVariants.{Equal, AtLeast, AnyBit, Greater}
use Rattle.bpf_insn.specs.declared.code.Arithmetic.TheVariants.{And}
use Rattle.bpf_insn.specs.declared.code.Operation.{Operation}
use Rattle.bpf_insn.specs.declared.code.Operation.TheVariants.{Compute, LoadWord, ReturnK, Jump, Branch}
use Rattle.bpf_insn.specs.declared.instruction.Insn.{Insn}
use Rattle.bpf_insn.specs.Code.{operation_of}

-- what A holds: no word of the record, a whole one, or bits of one under a mask
pub data Held : Type 0 where
  Nothing : Held
  Whole : Held
  Part : Held

-- some word of the record, whole or not
abbrev pub IsOfWord : Held → Type 0
IsOfWord Nothing = ⊥
IsOfWord Whole = ⊤
IsOfWord Part = ⊤

-- such a comparison tells all that it asks
abbrev pub Tells : Test → Held → Type 0
Tells Equal h = IsOfWord h
Tells AnyBit h = IsOfWord h
Tells AtLeast h = h ≡ Whole
Tells Greater h = h ≡ Whole

-- by the operation: what stands there, and the rest of the filter from so many instructions further on
abbrev pub steady_by : Option Operation → Insn → Held → (ℕ → Held → Type 0) → Type 0
steady_by (Some ReturnK) i h rest = ⊤
steady_by (Some Jump) i h rest = rest i.k h
steady_by (Some LoadWord) i h rest = rest 0 Whole
steady_by (Some (Compute And K)) i h rest = IsOfWord h × rest 0 Part
steady_by (Some (Branch test K)) i h rest = Tells test h × rest i.jt h × rest i.jf h
steady_by _ i h rest = ⊥

-- so it is on each way from a position on, where A holds this
abbrev pub IsSteady : List Insn → ℕ → Held → Type 0
IsSteady [] pc h = ⊥
IsSteady (i ∷ p) (suc pc) h = IsSteady p pc h
IsSteady (i ∷ p) zero h = steady_by (operation_of i.code) i h (λ skip now. IsSteady p skip now)
