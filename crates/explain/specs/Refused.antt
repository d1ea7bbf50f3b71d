-- How words are refused that ask for no call.
use Rattle.std.specs.Prelude.{ℕ, ◌≡◌, Bool, true, false, List, [], ◌∷◌, ◌++◌, codes}
use denote.Ref.{Bor}
use Rattle.texts.specs.Lines.{line_feed}
use Rattle.machines.specs.declared.arch.Arch.{Arch}
use Rattle.machines.specs.declared.arch.Family.{Family}
use Rattle.machines.specs.declared.arch.Family.TheVariants.{Chosen, Whole}
use Rattle.machines.specs.Arch.{family_of}
use Rattle.call_words.specs.Wrong.{TellsWrong}
use Rattle.wording.specs.Told.{RefusesBy}
use Rattle.wording.specs.declared.told.Told.{Told}
use Rattle.explain.specs.Asked.{are_bytes}

-- a second line says what is wrong, but for the machines of the chosen lists
abbrev pub is_reason : Family → (List ℕ → Type 0) → List ℕ → Type 0
is_reason Chosen TellsWhy reason = reason ≡ []
is_reason Whole TellsWhy reason = TellsWhy reason

-- the line `refused call` is told, and the reason behind it
pub record Refuses (native : Arch) (TellsWhy : List ℕ → Type 0) (told : Told) : Type 0 where
  pub reason : List ℕ
  pub is_one : is_reason (family_of native) TellsWhy reason
  pub tells : RefusesBy (codes "refused call" ++ reason) told

-- the line says that the digits are not those of a record
abbrev pub no_record : List ℕ
no_record = line_feed ∷ codes "a record is 128 hexadecimal digits"

abbrev pub told_by : Bool → Arch → List (Bor (List ℕ)) → List ℕ → Type 0
told_by true native given line = line ≡ no_record
told_by false native given line = TellsWrong native given line

-- the line says what is wrong with words that are to be `record` and digits, or a call and its arguments
abbrev pub TellsWhyNot : Arch → List (Bor (List ℕ)) → List ℕ → Type 0
TellsWhyNot native given line = told_by (are_bytes given) native given line
