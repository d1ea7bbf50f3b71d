-- Code that answers the calls of one machine, and of several, whose token is loaded.
use Rattle.std.specs.Prelude.{ℕ, ◌≡◌, ◌≤◌, ◌<◌, ◌+◌, ◌*◌, ◌^◌, ◌⊎◌, List, [], ◌∷◌, length, Option, Some}
use Rattle.std.specs.List.{All}
use Rattle.bpf_insn.specs.declared.instruction.Insn.{Insn}
use Rattle.machines.specs.declared.arch.Arch.{Arch}
use Rattle.machines.specs.Arch.{token_of}
use Rattle.profile.specs.Policy.{Policy}
use Rattle.rule_compile.specs.declared.label.Target.{Target}
use Rattle.rule_compile.specs.Shape.{IsPlain, call, tokens}
use Rattle.rule_compile.specs.inner.Code.{Grows, IsTarget}
use Rattle.rule_compile.specs.inner.Emitted.{AreFine}
use Rattle.rule_compile.specs.inner.Goes.{cost, deep, goes}
use Rattle.rule_compile.specs.inner.Numbers.{IsListed, said_of}
use Rattle.rule_compile.specs.inner.Ranges.{IsAtFront}

-- from the target on, each call of the machine gets its verdict
pub record AnswersMachine (policy : Policy) (token : ℕ) (old new : List Insn) (to : Target) : Type 0 where
  pub answers : (held : Option ℕ) (u : ℕ) → u < 2 ^ 32 → goes new to held (call token u) ≡ Some (said_of policy token u)
  pub short : length new ≤ length old + 1543
  pub light : cost new to ≤ 4119
  pub shallow : deep new to ≤ 306
  pub fine : AreFine old → AreFine new
  pub front : IsAtFront old new to

-- where there are no blocks yet
pub record CallsOf (policy : Policy) (machine : Arch) (count : ℕ) (old new : List Insn) (to : Target) : Type 0 where
  pub grows : Grows old new
  pub placed : IsTarget new to
  pub told : IsPlain policy → count ≡ 0 → IsListed policy machine → AnswersMachine policy (token_of machine) old new to

-- the token is that of one of the machines
abbrev pub IsOneOf : List Arch → ℕ → Type 0
IsOneOf [] token = ⊥
IsOneOf (arch ∷ archs) token = (token_of arch ≡ token) ⊎ IsOneOf archs token

-- from the target on, each call of one of the machines gets its verdict, and any other that of a foreign record
pub record AnswersThese (policy : Policy) (machines : List Arch) (old new : List Insn) (to : Target) : Type 0 where
  pub listed : (token u : ℕ) → u < 2 ^ 32 → IsOneOf machines token → goes new to (Some 1) (call token u) ≡ Some (said_of policy token u)
  pub foreign : (token u : ℕ) → (IsOneOf machines token → ⊥) → goes new to (Some 1) (call token u) ≡ Some 0
  pub short : length new ≤ length old + 1546 * tokens machines
  pub light : cost new to ≤ 4121 * tokens machines + 6
  pub shallow : deep new to ≤ 306 + tokens machines
  pub fine : AreFine old → AreFine new
  pub front : IsAtFront old new to

pub record Apart (policy : Policy) (machines : List Arch) (count : ℕ) (old new : List Insn) (to : Target) : Type 0 where
  pub grows : Grows old new
  pub placed : IsTarget new to
  pub told : IsPlain policy → count ≡ 0 → All (IsListed policy) machines → AnswersThese policy machines old new to
