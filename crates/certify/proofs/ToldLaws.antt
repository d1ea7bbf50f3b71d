-- What errors tell of a program.
use Rattle.std.proofs.Common.{ℕ, List}
use Rattle.std.specs.Prelude.{Result, Ok, Err, IfErr}
use Rattle.call_record.specs.Record.{words}
use Rattle.bpf_insn.specs.declared.instruction.Insn.{Insn}
use Rattle.profile.specs.Policy.{Policy}
use Rattle.cert_check.specs.Right.{IsRight}
use Rattle.certify.specs.declared.fault.PathsError.{PathsError}
use Rattle.certify.specs.declared.fault.PathsError.TheVariants.{Unlike, Unsettled, TooLarge, OutOfMemory}
use Rattle.certify.specs.Fault.{IsSize, IsWrongOn, TellsTruly, TellsWrong}

module _ (policy : Policy) (p : List Insn) where
  size_tells : (e : PathsError) → IsSize e → TellsWrong policy p e
  size_tells (Unlike pc call) is = absurd is
  size_tells (Unsettled pc) is = absurd is
  size_tells TooLarge is = is
  size_tells OutOfMemory is = is

  pub of_size : {A : Type 0} → (result : Result A PathsError) → IfErr result IsSize → IfErr result (TellsWrong policy p)
  of_size (Ok a) is = tt
  of_size (Err e) is = size_tells e is

  pub wrong_tells : (e : PathsError) → TellsWrong policy p e → TellsTruly policy p e
  wrong_tells (Unlike pc call) is = is
  wrong_tells (Unsettled pc) is = absurd is
  wrong_tells TooLarge is = is
  wrong_tells OutOfMemory is = is

  pub truly_of_size : {A : Type 0} → (result : Result A PathsError) → IfErr result IsSize → IfErr result (TellsTruly policy p)
  truly_of_size (Ok a) is = tt
  truly_of_size (Err e) is = wrong_tells e (size_tells e is)

  -- no record tells that a right program is wrong
  right_tells : IsRight policy p → (e : PathsError) → TellsWrong policy p e → IsSize e
  right_tells right (Unlike pc call) wrong = wrong.unsaid ((right (words call) wrong.is_record wrong.word).0 wrong.gives)
  right_tells right (Unsettled pc) is = is
  right_tells right TooLarge is = is
  right_tells right OutOfMemory is = is

  pub of_right : {A : Type 0} → IsRight policy p → (result : Result A PathsError) → IfErr result (TellsWrong policy p) → IfErr result IsSize
  of_right right (Ok a) is = tt
  of_right right (Err e) is = right_tells right e is

  -- a right program is wrong on no record
  pub right_not_wrong : IsRight policy p → (r : List ℕ) → IsWrongOn policy p r → ⊥
  right_not_wrong right r wrong = wrong.unsaid ((right r wrong.is_record wrong.word).0 wrong.gives)
