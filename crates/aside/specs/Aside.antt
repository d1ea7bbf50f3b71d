-- A filter that is right but for calls that are left aside.
use Rattle.std.specs.Prelude.{ℕ, ◌≡◌, ◌↔◌, IsTrue, List, Some}
use Rattle.std.specs.List.{Any}
use Rattle.bpf_insn.specs.declared.instruction.Insn.{Insn}
use Rattle.bpf_insn.specs.Machine.{verdict_of}
use Rattle.call_record.specs.Words.{IsRecord}
use Rattle.profile.specs.Policy.{Policy, Says}
use Rattle.compare.specs.declared.behind_runc.stub.calls.Calls.{Calls}
use Rattle.compare.specs.Spared.{IsLeft, is_mild}
use Rattle.compare.specs.Stub.{IsAnswered, IsOf, enosys}

-- the record is of one of these calls
abbrev pub IsAside : List Calls → List ℕ → Type 0
IsAside aside r = Any (IsOf r) aside

-- A filter is right but for calls that are left aside, and for its stub if it has one. On each record that is not of those calls, and
-- that the stub does not answer, it gives the profile's verdict and no other. On each that the stub answers it gives ENOSYS. There the
-- profile's verdict is its default, which refuses the call without a kill, or the record is no call.
pub record IsRightBut (p : Policy) (program : List Insn) (answered aside : List Calls) : Type 0 where
  pub others : (r : List ℕ) → IsRecord r → (IsAside aside r → ⊥) → (IsAnswered answered r → ⊥)
      → (v : ℕ) → (verdict_of program r ≡ Some v) ↔ Says p r v
  pub answers : (r : List ℕ) → IsRecord r → IsAnswered answered r → verdict_of program r ≡ Some enosys
  pub refused : (r : List ℕ) → IsRecord r → IsAnswered answered r → IsLeft p r × IsTrue (is_mild p.default_word)
