-- What was gathered of the lines of logs.
use Rattle.std.specs.Prelude.{ℕ, ◌≡◌, ◌<◌, ◌%◌, ◌^◌, ◌++◌, ◌⊎◌, false, List, [], ◌∷◌, Some, IfSome, slice_index}
use Rattle.std.specs.List.{All, Contains}
use Rattle.call_record.specs.Verdict.{allow}
use Rattle.call_record.specs.Words.{IsRecord}
use Rattle.machines.specs.declared.arch.Arch.{Arch}
use Rattle.profile.specs.declared.conditions.Cond.{Cond}
use Rattle.profile.specs.declared.conditions.Op.TheVariants.{MaskedEq}
use Rattle.profile.specs.declared.rules.Rule.{Rule}
use Rattle.profile.specs.Policy.{Policy, Says}
use Rattle.profile.specs.Rule.{Matches}
use Rattle.strace_logs.specs.Line.{CallParts, call_in, words_of_call}
use Rattle.wording.specs.Lines.{lines_of}
use Rattle.strace_logs.specs.declared.calls.Seen.{Seen}
use Rattle.strace_logs.specs.declared.reading.Shown.{Shown}

-- ---- calls

-- in so many of their lowest bits the arguments are the values
abbrev pub Agree : List ℕ → List ℕ → List ℕ → Type 0
Agree bits values args =
    (j : ℕ) → j < 6 → slice_index args j % 2 ^ slice_index bits j ≡ slice_index values j % 2 ^ slice_index bits j

-- the call has this number on this machine, and these values in so many bits
pub record Covers (seen : Seen) (call : CallParts) : Type 0 where
  pub arch : call.0 ≡ seen.arch
  pub nr : call.1 ≡ seen.nr
  pub agrees : Agree seen.bits seen.values call.2

-- the call was gathered
pub record IsCovered (seen : List Seen) (call : CallParts) : Type 0 where
  pub by : Seen
  pub among : Contains seen by
  pub covers : Covers by call
  pub is_record : IsRecord (words_of_call call)

-- one that covers the call is there
abbrev pub IsNoted : List Seen → CallParts → Type 0
IsNoted seen call = (s : Seen) × Contains seen s × Covers s call

-- nothing was added, or calls of this number on this machine were
abbrev pub Grows : List Seen → List Seen → Arch → ℕ → Type 0
Grows old new arch nr = (new ≡ old) ⊎ ((s : Seen) × (new ≡ old ++ s ∷ []) × (arch ≡ s.arch) × (nr ≡ s.nr))

-- ---- lines

-- one of the lines tells a call of this machine with this number
pub record IsShown (native : Arch) (lines : List (List ℕ)) (arch : Arch) (nr : ℕ) : Type 0 where
  pub line : List ℕ
  pub among : Contains lines line
  pub args : List ℕ
  pub told : call_in native line ≡ Some (arch, nr, args)

-- the call that the line tells, if it tells one, was gathered
abbrev pub LineIsCovered : Arch → List Seen → List ℕ → Type 0
LineIsCovered native seen line = IfSome (call_in native line) (IsCovered seen)

-- the calls are of these lines, and each call of these lines is among them
pub record AreTaken (native : Arch) (lines : List (List ℕ)) (seen : List Seen) : Type 0 where
  pub shown : All (λ s. IsShown native lines s.arch s.nr) seen
  pub covered : All (LineIsCovered native seen) lines

-- the lines of texts, one text after the other
abbrev pub lines_in : List (List ℕ) → List (List ℕ)
lines_in [] = []
lines_in (text ∷ texts) = lines_of text ++ lines_in texts

-- where no log lacks a record: the calls of these texts were gathered
abbrev pub HaveShown : Arch → List (List ℕ) → Shown → Type 0
HaveShown native texts shown = shown.is_lacking ≡ false → AreTaken native (lines_in texts) shown.calls.seen.items

-- ---- a text that comes in parts

-- a part of a line, and what stands behind it as lines
abbrev pub onto : List ℕ → List (List ℕ) → List (List ℕ)
onto part [] = part ∷ []
onto part (line ∷ lines) = (part ++ line) ∷ lines

-- Of the text that has come the whole lines were taken, behind those before it, and a part of a line is left.
pub record HasCome (native : Arch) (before : List (List ℕ)) (text part : List ℕ) (seen : List Seen) : Type 0 where
  pub lines : List (List ℕ)
  pub cut : (rest : List ℕ) → lines_of (text ++ rest) ≡ lines ++ onto part (lines_of rest)
  pub taken : AreTaken native (before ++ lines) seen

-- ---- rules

-- the condition looks at so many of the lowest bits of its argument alone
abbrev pub IsLow : ℕ → Cond → Type 0
IsLow bits c = (bits ≡ 64) ⊎ ((c.op ≡ MaskedEq) × (c.value < 2 ^ bits))

abbrev pub IsWithin : List ℕ → Cond → Type 0
IsWithin bits c = (c.index < 6) × IsLow (slice_index bits c.index) c

-- the rule is for each call that is covered
abbrev pub IsForEach : Seen → Rule → Type 0
IsForEach seen rule = (call : CallParts) → Covers seen call → IsRecord (words_of_call call) → Matches rule (words_of_call call)

-- one of the rules allows each call that is covered
abbrev pub OneAllows : List Rule → Seen → Type 0
OneAllows rules seen = (rule : Rule) × Contains rules rule × (rule.word ≡ allow) × IsForEach seen rule

-- the profile allows each call that is covered
abbrev pub AllowsEach : Policy → Seen → Type 0
AllowsEach p seen =
    (call : CallParts) → Covers seen call → IsRecord (words_of_call call) → Says p (words_of_call call) allow
