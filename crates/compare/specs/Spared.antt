-- Which calls a stub may answer. A filter with it still does what the profile says, but for the error of calls that both refuse.
use Rattle.std.specs.Prelude.{ℕ, ◌≡◌, ◌≢◌, ◌<◌, ◌⊎◌, ◌↔◌, ◌==◌, ◌&&◌, Bool, not, IsTrue, List, Some}
use Rattle.std.specs.List.{All, Any}
use Rattle.bpf_insn.specs.declared.instruction.Insn.{Insn}
use Rattle.bpf_insn.specs.Machine.{verdict_of}
use Rattle.call_record.specs.Verdict.{action, is_through, kill_process, kill_thread}
use Rattle.call_record.specs.Words.{IsRecord, word}
use Rattle.machines.specs.Arch.{token_of}
use Rattle.machines.specs.Machines.{s390_token, s390x_token, x86_64_token}
use Rattle.machines.specs.Numbers.{HasCall, IsWithin, from_to}
use Rattle.profile.specs.declared.rules.Rule.{Rule}
use Rattle.profile.specs.Policy.{Policy, Says}
use Rattle.compare.specs.declared.behind_runc.stub.calls.Calls.{Calls}
use Rattle.compare.specs.Stub.{IsAnswered, enosys}

-- the verdict does not carry the call out, and kills no process and no thread
abbrev pub is_mild : ℕ → Bool
is_mild v = not (is_through v) && (not (action v == kill_process) && not (action v == kill_thread))

-- Numbers with the token of x86-64 that are no call of any machine. The own ones of x86-64 are below them. Those of x32 have
-- the bit 0x40000000 (the kernel's arch/x86/entry/common.c, do_syscall_64).
abbrev pub IsNoCall : ℕ → ℕ → Type 0
IsNoCall token nr = (token ≡ x86_64_token) × IsWithin nr (from_to 0x80000000 0xbfffffff)

-- The number 0 with the token of s390x or s390, of which no call has it: their numbers begin with 1 (the kernel's
-- arch/s390/kernel/syscalls/syscall.tbl).
abbrev pub IsVacant : ℕ → ℕ → Type 0
IsVacant token nr = (nr ≡ 0) × ((token ≡ s390x_token) ⊎ (token ≡ s390_token))

-- The rule is not for this number. If it is for the machine that has the number, it is for a lesser one, or no call has this one.
pub record IsBeyond (token nr : ℕ) (rule : Rule) : Type 0 where
  pub other : token_of rule.arch ≡ token → rule.nr ≢ nr
  pub above : HasCall token nr rule.arch → (rule.nr < nr) ⊎ IsVacant token nr

-- A listed machine has the number, or it is no call. It is above all that the rules have for that machine, or no call has it.
pub record IsSpared (p : Policy) (token nr : ℕ) : Type 0 where
  pub listed : Any (HasCall token nr) p.machines ⊎ IsNoCall token nr
  pub beyond : All (IsBeyond token nr) p.rules

pub record AreSpared (p : Policy) (calls : Calls) : Type 0 where
  pub each : (nr : ℕ) → IsWithin nr calls.numbers → IsSpared p calls.token nr

-- The profile names none of the answered calls, and its default refuses them without a kill.
pub record Spares (p : Policy) (answered : List Calls) : Type 0 where
  pub mild : IsTrue (is_mild p.default_word)
  pub all : All (AreSpared p) answered

-- the profile gives the record its default, or the record is no call of any machine
abbrev pub IsLeft : Policy → List ℕ → Type 0
IsLeft p r = Says p r p.default_word ⊎ IsNoCall (word r 1) (word r 0)

-- A filter is right but for its stub. On each record that the stub does not answer it gives the profile's verdict, and no other. On each
-- that it answers it gives ENOSYS. There the profile's verdict is its default, which refuses the call without a kill, or the record is no
-- call.
pub record IsRightBehind (p : Policy) (program : List Insn) (answered : List Calls) : Type 0 where
  pub others : (r : List ℕ) → IsRecord r → (IsAnswered answered r → ⊥) → (v : ℕ) → (verdict_of program r ≡ Some v) ↔ Says p r v
  pub answers : (r : List ℕ) → IsRecord r → IsAnswered answered r → verdict_of program r ≡ Some enosys
  pub refused : (r : List ℕ) → IsRecord r → IsAnswered answered r → IsLeft p r × IsTrue (is_mild p.default_word)
