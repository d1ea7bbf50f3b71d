-- A filter that tells calls of machines from all others.
use Rattle.std.specs.Prelude.{◌≡◌, ◌↔◌, ℕ, List, Some}
use Rattle.std.specs.List.{Any}
use Rattle.call_record.specs.Verdict.{allow, kill_thread}
use Rattle.call_record.specs.Words.{IsRecord, word}
use Rattle.machines.specs.declared.arch.Arch.{Arch}
use Rattle.machines.specs.Numbers.{HasCall}
use Rattle.bpf_insn.specs.declared.instruction.Insn.{Insn}
use Rattle.bpf_insn.specs.Machine.{verdict_of}

-- the record is a call of one of these machines
abbrev pub IsCallOf : List Arch → List ℕ → Type 0
IsCallOf machines r = Any (HasCall (word r 1) (word r 0)) machines

-- A program is made of another. It gives each call of the machines what that one gives, and kills each other just where that one allows it.
pub record IsGuarded (machines : List Arch) (program made : List Insn) : Type 0 where
  pub own : (r : List ℕ) → IsRecord r → IsCallOf machines r → verdict_of made r ≡ verdict_of program r
  pub others : (r : List ℕ) → IsRecord r → ¬ IsCallOf machines r
      → (verdict_of made r ≡ Some kill_thread) ↔ (verdict_of program r ≡ Some allow)
