-- What a program answers by the first two words of a record alone (seccomp(2), struct seccomp_data). These are the number
-- of the call, and the token of the machine. The kernel asks its filters so when they are loaded (seccomp_cache_prepare).
-- It runs none of them on a call that each of them is known to allow.
use Rattle.std.specs.Prelude.{ℕ, ◌≡◌, ◌==◌, Bool, false, List, [], ◌∷◌, Option, Some, None}
use Rattle.bpf_insn.specs.declared.instruction.Insn.{Insn}
use Rattle.bpf_insn.specs.Machine.{verdict_of}
use Rattle.call_record.specs.declared.layout.Record.{Record}
use Rattle.call_record.specs.Record.{words}
use Rattle.call_record.specs.Verdict.{action, allow}

-- the verdict in which the run ends where no other word of the record is known: a load of another one is stuck
abbrev pub fixed_verdict : List Insn → ℕ → ℕ → Option ℕ
fixed_verdict p arch nr = verdict_of p (nr ∷ arch ∷ [])

-- there is a verdict, and it allows the call
abbrev pub is_allow : Option ℕ → Bool
is_allow None = false
is_allow (Some word) = action word == allow

-- the program allows each call with this number and this token by these two words
abbrev pub is_fixed_allow : List Insn → ℕ → ℕ → Bool
is_fixed_allow p arch nr = is_allow (fixed_verdict p arch nr)

-- a verdict that is fixed so is the verdict on each record with these two words
abbrev pub FixedIsTheVerdict : Type 0
FixedIsTheVerdict = (p : List Insn) (r : Record) (word : ℕ) → fixed_verdict p r.arch r.nr ≡ Some word → verdict_of p (words r) ≡ Some word
