-- What errors tell: a limit of the format, or memory; or that the program is wrong.
use Rattle.std.specs.Prelude.{◌≡◌, ⊤, ℕ, List, Some}
use Rattle.call_record.specs.Words.{IsRecord}
use Rattle.call_record.specs.Record.{words}
use Rattle.bpf_insn.specs.declared.instruction.Insn.{Insn}
use Rattle.bpf_insn.specs.Machine.{verdict_of}
use Rattle.profile.specs.Policy.{Policy, Says}
use Rattle.certify.specs.declared.fault.PathsError.{PathsError}
use Rattle.certify.specs.declared.fault.PathsError.TheVariants.{Unlike, Unsettled, TooLarge, OutOfMemory}

-- no path is told of
abbrev pub IsSize : PathsError → Type 0
IsSize (Unlike pc call) = ⊥
IsSize (Unsettled pc) = ⊥
IsSize TooLarge = ⊤
IsSize OutOfMemory = ⊤

-- the program gives a record a verdict that the profile does not say of it
pub record IsWrongOn (policy : Policy) (p : List Insn) (r : List ℕ) : Type 0 where
  pub is_record : IsRecord r
  pub word : ℕ
  pub gives : verdict_of p r ≡ Some word
  pub unsaid : Says policy r word → ⊥

-- a record that is told is one on which the program is wrong
abbrev pub TellsTruly : Policy → List Insn → PathsError → Type 0
TellsTruly policy p (Unlike pc call) = IsWrongOn policy p (words call)
TellsTruly policy p (Unsettled pc) = ⊤
TellsTruly policy p TooLarge = ⊤
TellsTruly policy p OutOfMemory = ⊤

-- no path is told of, or a record on which the program is wrong
abbrev pub TellsWrong : Policy → List Insn → PathsError → Type 0
TellsWrong policy p (Unlike pc call) = IsWrongOn policy p (words call)
TellsWrong policy p (Unsettled pc) = ⊥
TellsWrong policy p TooLarge = ⊤
TellsWrong policy p OutOfMemory = ⊤
