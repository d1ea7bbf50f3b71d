-- How far the records are split.
use Rattle.std.specs.Prelude.{ℕ, ◌≡◌, List, Some}
use Rattle.std.specs.List.{Any}
use Rattle.bpf_insn.specs.declared.instruction.Insn.{Insn}
use Rattle.bpf_insn.specs.Machine.{verdict_of}
use Rattle.call_record.specs.Words.{word}
use Rattle.machines.specs.declared.numbers.Numbers.{Numbers}
use Rattle.machines.specs.Numbers.{IsWithin}
use Rattle.compare.specs.declared.behind_runc.stub.calls.Calls.{Calls}
use Rattle.compare.specs.Stub.{enosys, IsAnswered}

-- one of these
abbrev pub IsAmong : ℕ → List Numbers → Type 0
IsAmong n numbers = Any (IsWithin n) numbers

-- the record of one of these numbers is answered, and that of another is left to the rest
pub record SplitsBy (p rest : List Insn) (numbers : List Numbers) (r : List ℕ) : Type 0 where
  pub answers : IsAmong (word r 0) numbers → verdict_of p r ≡ Some enosys
  pub others : (IsAmong (word r 0) numbers → ⊥) → verdict_of p r ≡ verdict_of rest r

-- the same for the calls of all tokens
pub record Splits (p rest : List Insn) (answered : List Calls) (r : List ℕ) : Type 0 where
  pub answers : IsAnswered answered r → verdict_of p r ≡ Some enosys
  pub others : (IsAnswered answered r → ⊥) → verdict_of p r ≡ verdict_of rest r

-- the calls of these numbers with a token
abbrev pub calls_of : ℕ → Numbers → Calls
calls_of token numbers = record { token = token; numbers = numbers }
