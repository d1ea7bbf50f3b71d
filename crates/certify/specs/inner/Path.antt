-- What is known on a path of a filter of calls.
use Rattle.std.specs.Prelude.{◌≡◌, ℕ, ◌+◌, ◌<◌, ◌^◌, Bool, List, ◌∷◌, Option, Some, None, IfSome}
use Rattle.std.specs.Prelude.{slice_get, if◌then◌else◌}
use Rattle.bpf_insn.specs.declared.code.Test.{Test}
use Rattle.bpf_insn.specs.declared.instruction.Insn.{Insn}
use Rattle.bpf_insn.specs.Code.{operation_of}
use Rattle.profile.specs.Policy.{Policy}
use Rattle.profile.specs.Said.{said}
use Rattle.cert_state.specs.declared.literal.Lit.{Lit}
use Rattle.cert_state.specs.Literals.{all_bits}
use Rattle.cert_state.specs.Points.{IsPoint}
use Rattle.cert_state.specs.Transfer.{masked_fact}
use Rattle.rule_compile.specs.Moves.{Move}
use Rattle.rule_compile.specs.Moves.{Ends, Goes, Forks}
use Rattle.rule_compile.specs.Moves.{move_at}
use Rattle.rule_compile.specs.Shape.{answer, call}

-- from a position on the filter answers each call that is known to be possible what the profile says
abbrev pub AnswersThere : Policy → List Insn → ℕ → Option ℕ → List Lit → Type 0
AnswersThere policy p pc held known =
    (t u : ℕ) → IsPoint known 1 t → IsPoint known 0 u → answer p pc held (call t u) ≡ Some (said policy (call t u))

-- some call is possible
pub record IsPossible (known : List Lit) : Type 0 where
  pub token : ℕ
  pub number : ℕ
  pub token_is : IsPoint known 1 token
  pub number_is : IsPoint known 0 number

-- A holds no word, or the number or the token
abbrev pub HoldsCall : Option ℕ → Type 0
HoldsCall held = IfSome held (λ w. w < 2)

-- the fact of a comparison of a whole word
abbrev pub fact : Test → ℕ → ℕ → Bool → Option Lit
fact test w k taken = masked_fact test w all_bits k taken

abbrev pub LeadsOn : Policy → List Insn → ℕ → Option ℕ → List Lit → Insn → Option Move → Type 0
LeadsOn policy p pc held known i None = IsPossible known → ⊥
LeadsOn policy p pc held known i (Some (Ends v)) = (t u : ℕ) → IsPoint known 1 t → IsPoint known 0 u → said policy (call t u) ≡ v
LeadsOn policy p pc held known i (Some (Goes skip now)) = AnswersThere policy p (pc + 1 + skip) now known
LeadsOn policy p pc held known i (Some (Forks test w)) =
    (taken : Bool) (l : Lit) → fact test w i.k taken ≡ Some l
    → AnswersThere policy p (pc + 1 + (if taken then i.jt else i.jf)) (Some w) (l ∷ known)

abbrev pub PathsLead : Type 0
PathsLead =
    (policy : Policy) (p : List Insn) (pc : ℕ) (held : Option ℕ) (known : List Lit) (i : Insn)
    → slice_get p pc ≡ Some i → i.k < 2 ^ 32 → HoldsCall held → AnswersThere policy p pc held known
    → LeadsOn policy p pc held known i (move_at (operation_of i.code) i.k held)
