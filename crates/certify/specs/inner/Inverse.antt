-- Which instructions make a move.
use Rattle.std.specs.Prelude.{◌≡◌, ℕ, ◌*◌, ◌<◌, ◌⊎◌, ⊤, Option, Some, None}
use Rattle.bpf_insn.specs.declared.code.Operand.TheVariants.{K}
use Rattle.bpf_insn.specs.declared.code.Test.TheVariants.{Equal, AtLeast}
use Rattle.bpf_insn.specs.declared.code.Operation.{Operation}
use Rattle.bpf_insn.specs.declared.code.Operation.TheVariants.{LoadWord, ReturnK, Jump, Branch}
use Rattle.rule_compile.specs.Moves.{Move, Ends, Goes, Forks}

-- a load of the number or of the token
pub record IsLoad (o : Option Operation) (k skip : ℕ) (now : Option ℕ) : Type 0 where
  pub operation : o ≡ Some LoadWord
  pub word : ℕ
  pub few : word < 2
  pub offset : k ≡ 4 * word
  pub skip_is : skip ≡ 0
  pub now_is : now ≡ Some word

-- the instruction of a move: a return, a jump, a load, a comparison of what A holds
abbrev pub IsMoveOf : Option Operation → ℕ → Option ℕ → Option Move → Type 0
IsMoveOf o k held None = ⊤
IsMoveOf o k held (Some (Ends word)) = (o ≡ Some ReturnK) × (word ≡ k)
IsMoveOf o k held (Some (Goes skip now)) = ((o ≡ Some Jump) × (skip ≡ k) × (now ≡ held)) ⊎ IsLoad o k skip now
IsMoveOf o k held (Some (Forks test word)) = (o ≡ Some (Branch test K)) × (held ≡ Some word) × ((test ≡ Equal) ⊎ (test ≡ AtLeast))
