-- What is written of a record on which a filter gives another verdict than a profile says.
use Rattle.std.specs.Prelude.{ℕ, ◌≡◌, ◌<◌, ◌⊎◌, Bool, false, true, List, length, slice_index, Option, Result, IfOk}
use Rattle.call_record.specs.Words.{words_of}
use Rattle.texts.specs.Failures.{Failures}
use Rattle.texts.specs.Sink.{WritesMade}
use Rattle.texts.specs.declared.streams.fault.WriteFault.{WriteFault}
use Rattle.maker.specs.Certified.{counterexample_line}
use Rattle.maker.specs.Exported.{LacksMemory}

-- the line tells the bytes of these words
pub record IsLine (words : List ℕ) (given said : ℕ) (line : List ℕ) : Type 0 where
  pub rec : List ℕ
  pub size : length rec ≡ 64
  pub bytes : (i : ℕ) → slice_index rec i < 256
  pub same : words_of rec ≡ words
  pub is : line ≡ counterexample_line rec given said

-- what was written is such a line, and the answer is false
pub record TellsLine {S : Type 0} (held : S → Option (List ℕ)) (failures : S → Failures) (old new : S) (words : List ℕ) (given said : ℕ)
    (result : Result Bool WriteFault) : Type 0 where
  pub line : List ℕ
  pub is : IsLine words given said line
  pub written : WritesMade held failures old new line result
  pub told : IfOk result (λ done. done ≡ false)

abbrev pub Tells : {S : Type 0} → (S → Option (List ℕ)) → (S → Failures) → S → S → List ℕ → ℕ → ℕ → Result Bool WriteFault → Type 0
Tells held failures old new words given said result =
    TellsLine held failures old new words given said result ⊎ LacksMemory old new result

-- these bytes were written, and the answer is true
pub record IsWritten {S : Type 0} (held : S → Option (List ℕ)) (failures : S → Failures) (old new : S) (bytes : List ℕ)
    (result : Result Bool WriteFault) : Type 0 where
  pub written : WritesMade held failures old new bytes result
  pub told : IfOk result (λ done. done ≡ true)
