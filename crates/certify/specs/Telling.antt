-- Filters of which each comparison tells all that it asks: A holds a number or a word of the record under a mask, and is compared
-- with a number. A comparison by order asks of a word's bits from one up: of all of them, or of those that a mask leaves.
use Rattle.std.specs.Prelude.{◌≡◌, ⊤, ℕ, zero, suc, IsTrue, List, [], ◌∷◌, Option, Some, None}
use Rattle.bpf_insn.specs.declared.code.Test.{Test}
use Rattle.bpf_insn.specs.declared.code.Test.TheVariants.{Equal, AtLeast, AnyBit, Greater}
use Rattle.bpf_insn.specs.declared.code.Operation.{Operation}
use Rattle.bpf_insn.specs.declared.code.Operation.TheVariants.{ReturnA, ReturnK, Jump, Branch}
use Rattle.bpf_insn.specs.declared.instruction.Insn.{Insn}
use Rattle.bpf_insn.specs.Code.{operation_of}
use Rattle.cert_state.specs.declared.literal.AVal.{AVal}
use Rattle.cert_state.specs.declared.literal.AVal.TheVariants.{Const, Masked}
use Rattle.cert_state.specs.declared.literal.Regs.{Regs}
use Rattle.cert_state.specs.Sharp.{is_high}
use Rattle.cert_state.specs.Transfer.{operand_value, transfer}
use Rattle.cert_form.specs.Spelling.{nothing_stated}
use Rattle.rule_compile.specs.Steady.{IsSteady, Nothing}

-- a comparison of A with its operand, of both of which this is known, tells all that it asks
abbrev pub IsTold : Test → AVal → AVal → Type 0
IsTold test (Const a) (Const c) = ⊤
IsTold Equal (Masked w m) (Const c) = ⊤
IsTold AnyBit (Masked w m) (Const c) = ⊤
IsTold Greater (Masked w m) (Const c) = IsTrue (is_high m)
IsTold AtLeast (Masked w m) (Const c) = IsTrue (is_high m)
IsTold test a c = ⊥

-- a number is known
abbrev pub IsNumber : AVal → Type 0
IsNumber v = (c : ℕ) × (v ≡ Const c)

-- by the operation: what stands there, and the rest of the filter from so many instructions further on
abbrev pub telling_by : Option Operation → Insn → Regs → (ℕ → Type 0) → Type 0
telling_by (Some ReturnK) i s rest = ⊤
telling_by (Some ReturnA) i s rest = IsNumber s.a
telling_by (Some Jump) i s rest = rest i.k
telling_by (Some (Branch test c)) i s rest = IsTold test s.a (operand_value c i s) × rest i.jt × rest i.jf
telling_by (Some op) i s rest = rest 0
telling_by None i s rest = ⊥

-- so it is on each way from a position on, where this is known of the registers
abbrev pub TellsFrom : List Insn → ℕ → Regs → Type 0
TellsFrom [] pc s = ⊥
TellsFrom (i ∷ p) (suc pc) s = TellsFrom p pc s
TellsFrom (i ∷ p) zero s = telling_by (operation_of i.code) i s (λ skip. TellsFrom p skip (transfer s i))

-- A and X are 0 at first, and no scratch word is stated
abbrev pub at_first : Regs
at_first = record { a = Const 0; x = Const 0; scratch = nothing_stated }

abbrev pub IsTelling : List Insn → Type 0
IsTelling p = TellsFrom p 0 at_first

-- each filter that compares steadily is one, as those of the compiler are
abbrev pub SteadyIsTelling : Type 0
SteadyIsTelling = (p : List Insn) → IsSteady p 0 Nothing → IsTelling p
