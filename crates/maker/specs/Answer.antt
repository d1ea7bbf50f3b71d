-- What is said of a filter and a record, both as bytes. It is the kernel's check (seccomp(2), and the seccomp_filter page of
-- the kernel's documentation), and the verdict that the filter answers.
use Rattle.std.specs.Prelude.{ℕ, ◌≡◌, ◌≢◌, Bool, true, false, List, [], ◌∷◌, ◌++◌, length, Option, Some, None, Result, IfOk, codes}
use Rattle.texts.specs.Lines.{line_feed}
use Rattle.call_record.specs.Text as verdict
use Rattle.call_record.specs.Words.{words_of}
use Rattle.bpf_insn.specs.Bytes.{insns_of, view_fault}
use Rattle.bpf_insn.specs.Machine.{verdict_of}
use Rattle.bpf_insn.specs.Fault as view
use Rattle.kernel_check.specs.Accepted.{IsAccepted, IsRefusal}
use Rattle.kernel_check.specs.Fault as kernel
use Rattle.texts.specs.Failures.{Failures}
use Rattle.texts.specs.Sink.{Writes}
use Rattle.texts.specs.declared.streams.fault.WriteFault.{WriteFault}
use Rattle.maker.specs.declared.verdict.Answer.{Answer}
use Rattle.maker.specs.declared.verdict.Answer.TheVariants.{Verdict, NoRecord, NoProgram, Refusal}

-- the record's length is looked at first, then whether the filter is a program, then the kernel's check
abbrev pub IsAnswer : List ℕ → List ℕ → Answer → Type 0
IsAnswer filter rec NoRecord = length rec ≢ 64
IsAnswer filter rec (NoProgram e) = (length rec ≡ 64) × (view_fault filter ≡ Some e)
IsAnswer filter rec (Refusal e) = (length rec ≡ 64) × (view_fault filter ≡ None) × IsRefusal (insns_of filter) e
IsAnswer filter rec (Verdict v) =
    (length rec ≡ 64) × (view_fault filter ≡ None) × IsAccepted (insns_of filter) × (verdict_of (insns_of filter) (words_of rec) ≡ Some v)

-- no two answers stand
abbrev pub OneAnswer : Type 0
OneAnswer = (filter rec : List ℕ) (a b : Answer) → IsAnswer filter rec a → IsAnswer filter rec b → a ≡ b

-- the answer is a verdict, and no refusal
abbrev pub is_verdict : Answer → Bool
is_verdict (Verdict v) = true
is_verdict other = false

-- the line that says it
abbrev pub line_of : Answer → List ℕ
line_of (Verdict v) = verdict.text_of v ++ line_feed ∷ []
line_of NoRecord = codes "refused record" ++ line_feed ∷ []
line_of (NoProgram e) = codes "refused view " ++ view.text_of e ++ line_feed ∷ []
line_of (Refusal e) = codes "refused kernel " ++ kernel.text_of e ++ line_feed ∷ []

-- what was written is the line of the answer, and the call tells whether that is a verdict
pub record WritesAnswer {S : Type 0} (held : S → Option (List ℕ)) (failures : S → Failures) (old new : S) (filter rec : List ℕ)
    (result : Result Bool WriteFault) : Type 0 where
  pub answer : Answer
  pub stands : IsAnswer filter rec answer
  pub written : Writes held failures old new (line_of answer) result
  pub told : IfOk result (λ told. told ≡ is_verdict answer)
