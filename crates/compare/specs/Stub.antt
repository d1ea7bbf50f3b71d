-- The instructions that runc puts in front of a container's filter, its ENOSYS stub. Calls of numbers that it does not know fail with
-- ENOSYS, as on a kernel that lacks them. All others are left to the filter (runc's package libcontainer/seccomp/patchbpf).
use Rattle.std.specs.Prelude.{ℕ, ◌≡◌, ◌<◌, List, length, drop, Some}
use Rattle.std.specs.List.{Any}
use Rattle.bpf_insn.specs.declared.instruction.Insn.{Insn}
use Rattle.bpf_insn.specs.Machine.{verdict_of}
use Rattle.call_record.specs.Words.{IsRecord, word}
use Rattle.machines.specs.Numbers.{IsWithin}
use Rattle.compare.specs.declared.behind_runc.stub.calls.Calls.{Calls}

-- the verdict ERRNO with ENOSYS (38)
abbrev pub enosys : ℕ
enosys = 0x00050026

-- the record is of one of these calls: it has their token, and one of their numbers
abbrev pub IsOf : List ℕ → Calls → Type 0
IsOf r calls = (word r 1 ≡ calls.token) × IsWithin (word r 0) calls.numbers

-- the record is of a call that the stub answers
abbrev pub IsAnswered : List Calls → List ℕ → Type 0
IsAnswered answered r = Any (IsOf r) answered

-- the rest is what a program has behind some of its instructions
abbrev pub IsRest : List Insn → List Insn → Type 0
IsRest p rest = (begin : ℕ) × (begin < length p) × (rest ≡ drop begin p)

-- a program answers ENOSYS on just the records of these calls, and on all others what its rest answers
pub record IsStub (p rest : List Insn) (answered : List Calls) : Type 0 where
  pub is_rest : IsRest p rest
  pub answers : (r : List ℕ) → IsRecord r → IsAnswered answered r → verdict_of p r ≡ Some enosys
  pub others : (r : List ℕ) → IsRecord r → (IsAnswered answered r → ⊥) → verdict_of p r ≡ verdict_of rest r
