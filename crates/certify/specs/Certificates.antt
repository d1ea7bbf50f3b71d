-- What is promised of a certificate that is made of a filter, and of the error in its place.
use Rattle.std.specs.Global.{Vec}
use Rattle.std.specs.Prelude.{◌≡◌, ℕ, List, Result, IfErr, IfOk}
use Rattle.bpf_insn.specs.declared.instruction.Insn.{Insn}
use Rattle.profile.specs.Policy.{Policy}
use Rattle.rule_compile.specs.Shape.{IsCallFilter, IsPlain}
use Rattle.rule_compile.specs.Steady.{IsSteady, Nothing}
use Rattle.cert_check.specs.Right.{IsRight}
use Rattle.cert_check.specs.Valid.{IsValidCertificate}
use Rattle.certify.specs.Telling.{IsTelling}
use Rattle.certify.specs.declared.error.CertifyError.{CertifyError}
use Rattle.certify.specs.declared.error.CertifyError.TheVariants.{OutOfMemory}
use Rattle.certify.specs.Error.{IsOfSize}

module _ (policy : Policy) (p : List Insn) (result : Result (Vec ℕ) CertifyError) where
  -- a certificate keeps each rule of the checker
  abbrev pub MakesValid : Type 0
  MakesValid = IfOk result (λ bytes. IsValidCertificate policy p bytes.items)

  -- of a filter that has the shape of a plain profile's an error is want of memory
  abbrev pub OwnLacksMemory : Type 0
  OwnLacksMemory = IsPlain policy → IsCallFilter policy p → IfErr result (λ e. e ≡ OutOfMemory)

  -- of a right filter of which each comparison tells all that it asks an error is that the format or memory has no room
  abbrev pub TellingLacksRoom : Type 0
  TellingLacksRoom = IsRight policy p → IsTelling p → IfErr result IsOfSize

  -- of a right filter that compares steadily an error is that the format or memory has no room
  abbrev pub RightLacksRoom : Type 0
  RightLacksRoom = IsRight policy p → IsSteady p 0 Nothing → IfErr result IsOfSize
