-- What a stack of filters answers, and what one filter is that answers the same.
use Rattle.std.specs.Prelude.{◌≡◌, ◌↔◌, ℕ, List, reverse, None, Some}
use Rattle.std.specs.List.{All, AllZip}
use Rattle.call_record.specs.Words.{IsRecord}
use Rattle.call_record.specs.Verdict.{strictest_of}
use Rattle.bpf_insn.specs.Bytes.{insns_of, view_fault}
use Rattle.bpf_insn.specs.Machine.{verdict_of}
use Rattle.kernel_check.specs.Accepted.{IsAccepted}

-- the bytes are a program that the kernel accepts
abbrev pub IsFilter : List ℕ → Type 0
IsFilter filter = (view_fault filter ≡ None) × IsAccepted (insns_of filter)

-- the filter gives the record this verdict
abbrev pub GivesVerdict : List ℕ → List ℕ → ℕ → Type 0
GivesVerdict r filter v = verdict_of (insns_of filter) r ≡ Some v

-- Filters that were loaded in this order give the record verdicts, and this one counts. Of the strictest it is the one that the newest
-- filter gives, which the kernel asks first (seccomp(2)).
abbrev pub StackGives : List (List ℕ) → List ℕ → ℕ → Type 0
StackGives filters r v = (vs : List ℕ) × AllZip (GivesVerdict r) filters vs × (v ≡ strictest_of (reverse vs))

-- One filter answers as a stack of filters that the kernel accepts. It accepts this one, too. Each call record gets from it the verdict
-- that counts, and no other.
pub record IsFlat (filters : List (List ℕ)) (made : List ℕ) : Type 0 where
  pub stack : All IsFilter filters
  pub one : IsFilter made
  pub right : (r : List ℕ) → IsRecord r → (v : ℕ) → GivesVerdict r made v ↔ StackGives filters r v
