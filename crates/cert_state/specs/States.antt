-- What may be known of the registers, and where what is known is so.
use Rattle.std.specs.Prelude.{◌≡◌, ℕ, List, All, Option, Some, None, IfSome, length, slice_get, bit_and}
use Rattle.call_record.specs.Words.{word}
use Rattle.bpf_insn.specs.Machine.{Registers, kept}
use Rattle.cert_state.specs.declared.literal.Lit.{Lit}
use Rattle.cert_state.specs.declared.literal.AVal.{AVal}
use Rattle.cert_state.specs.declared.literal.AVal.TheVariants.{Unknown, Const, Masked}
use Rattle.cert_state.specs.declared.literal.Regs.{Regs}
use Rattle.cert_state.specs.Literals.{Holds}

-- the number that a value states, on a record
abbrev pub number_of : AVal → List ℕ → Option ℕ
number_of Unknown r = None
number_of (Const c) r = Some c
number_of (Masked w m) r = Some (bit_and (word r w) m)

-- a register is as a value says
abbrev pub HasValue : AVal → List ℕ → ℕ → Type 0
HasValue v r a = IfSome (number_of v r) (λ n. a ≡ n)

-- a scratch word is as a value says: where one is stated, the word is written and holds it
abbrev pub IsKept : AVal → List ℕ → Option ℕ → Type 0
IsKept v r o = IfSome (number_of v r) (λ n. o ≡ Some n)

-- a record and what a program holds on it are as a state says
pub record Inside (regs : Regs) (lits : List Lit) (r : List ℕ) (s : Registers) : Type 0 where
  pub known : All (λ l. Holds l r) lits
  pub has_a : HasValue regs.a r s.a
  pub has_x : HasValue regs.x r s.x
  pub sixteen : length s.scratch ≡ 16
  pub has_scratch : (k : ℕ) (v : AVal) → slice_get regs.scratch k ≡ Some v → IsKept v r (kept s k)
