-- What one path through the stub does, on all records that take it.
use Rattle.std.specs.Prelude.{ℕ, ◌≡◌, ◌≤◌, Bool, true, false, List, [], ◌∷◌, Option, Some}
use Rattle.bpf_insn.specs.declared.instruction.Insn.{Insn}
use Rattle.bpf_insn.specs.declared.code.Operation.TheVariants.{LoadWord}
use Rattle.bpf_insn.specs.Code.{operation_of}
use Rattle.bpf_insn.specs.Machine.{Registers, Step, Ends, Goes, start, verdict_of}
use Rattle.call_record.specs.Words.{IsRecord, word}
use Rattle.machines.specs.declared.numbers.Numbers.{Numbers}
use Rattle.machines.specs.Numbers.{IsWithin}
use Rattle.compare.specs.declared.behind_runc.stub.region.Region.{Region}
use Rattle.compare.specs.declared.behind_runc.stub.step.Held.{Held}
use Rattle.compare.specs.declared.behind_runc.stub.step.Held.TheVariants.{Nothing, Number, Token}
use Rattle.compare.specs.declared.behind_runc.stub.step.Move.{Move}
use Rattle.compare.specs.declared.behind_runc.stub.step.Move.TheVariants.{Answers, Skips}
use Rattle.compare.specs.Stub.{enosys}

-- some of the numbers, from the first of them on
pub record IsPart (part whole : Numbers) : Type 0 where
  pub first : part.first ≡ whole.first
  pub some : part.first ≤ part.last
  pub last : part.last ≤ whole.last

-- the same of a region's numbers and tokens
pub record IsPartOf (part whole : Region) : Type 0 where
  pub numbers : IsPart part.numbers whole.numbers
  pub tokens : IsPart part.tokens whole.tokens

-- there are numbers, and tokens
pub record IsSome (region : Region) : Type 0 where
  pub numbers : region.numbers.first ≤ region.numbers.last
  pub tokens : region.tokens.first ≤ region.tokens.last

-- a record of the region
pub record IsIn (region : Region) (r : List ℕ) : Type 0 where
  pub is_record : IsRecord r
  pub number : IsWithin (word r 0) region.numbers
  pub token : IsWithin (word r 1) region.tokens

-- what A holds in a run on this record
abbrev pub a_of : Held → List ℕ → ℕ
a_of Nothing r = 0
a_of Number r = word r 0
a_of Token r = word r 1

-- the registers where only A was written
abbrev pub holding : ℕ → Registers
holding a = record start { a = a }

-- what an instruction does that makes this move
abbrev pub step_of : Move → List ℕ → Step
step_of Answers r = Ends enosys
step_of (Skips skip held) r = Goes skip (holding (a_of held r))

-- ENOSYS where it is answered, and else what the rest answers
abbrev pub answer_of : Bool → List Insn → List ℕ → Option ℕ
answer_of true rest r = Some enosys
answer_of false rest r = verdict_of rest r

-- the program begins with the load of a word, so it does not look at what A held before
abbrev pub BeginsWithLoad : List Insn → Type 0
BeginsWithLoad [] = ⊥
BeginsWithLoad (i ∷ p) = operation_of i.code ≡ Some LoadWord
