-- Where an instruction leads on a call of which the machine and the number are known, by what is known of A.
use Rattle.std.specs.Prelude.{ℕ, ◌≡◌, ◌==◌, ◌⊎◌, if◌then◌else◌, Option, Some, None}
use Rattle.bpf_insn.specs.declared.instruction.Insn.{Insn}
use Rattle.bpf_insn.specs.declared.code.Operand.TheVariants.{K, X}
use Rattle.bpf_insn.specs.declared.code.Test.{Test}
use Rattle.bpf_insn.specs.declared.code.Operation.{Operation}
use Rattle.bpf_insn.specs.declared.code.Operation.TheVariants.{LoadWord, LoadScratchX, Store, StoreX, SetX, ReturnK, ReturnA, Jump, Branch}
use Rattle.bpf_insn.specs.declared.code.Operation.TheVariants.{CopyToX}
use Rattle.bpf_insn.specs.Machine.{Step, Ends, Goes, Stuck, holds}
use Rattle.show.specs.declared.leading.Holds.{Holds}
use Rattle.show.specs.declared.leading.Holds.TheVariants.{Number, Machine, Other}
use Rattle.show.specs.declared.leading.Ways.{Ways}

-- what A holds, if it is known
abbrev pub known : ℕ → ℕ → Holds → Option ℕ
known arch nr Number = Some nr
known arch nr Machine = Some arch
known arch nr Other = None

-- A holds what is known of it
abbrev pub Held : ℕ → ℕ → Holds → ℕ → Type 0
Held arch nr Number a = a ≡ nr
Held arch nr Machine a = a ≡ arch
Held arch nr Other a = Unit {0}

-- what A holds after a load
abbrev pub loaded_from : ℕ → Holds
loaded_from k = if k == 0 then Number else if k == 4 then Machine else Other

-- what is known of A after an operation that neither ends the run nor jumps
abbrev pub held_after : Operation → ℕ → Holds → Holds
held_after LoadWord k h = loaded_from k
held_after LoadScratchX k h = h
held_after Store k h = h
held_after StoreX k h = h
held_after SetX k h = h
held_after CopyToX k h = h
held_after other k h = Other

abbrev pub to : ℕ → ℕ → Holds → Ways
to first second h = record { first = first; second = second; holds = h }

-- where a test of A leads that is known, or not
abbrev pub tested : Test → Insn → Holds → Option ℕ → Ways
tested test i h None = to i.jt i.jf h
tested test i h (Some a) = if holds test a i.k then to i.jt i.jt h else to i.jf i.jf h

-- where an instruction leads, if it does not end the run
abbrev pub leads_of : Option Operation → Insn → ℕ → ℕ → Holds → Option Ways
leads_of None i arch nr h = None
leads_of (Some ReturnK) i arch nr h = None
leads_of (Some ReturnA) i arch nr h = None
leads_of (Some Jump) i arch nr h = Some (to i.k i.k h)
leads_of (Some (Branch test K)) i arch nr h = Some (tested test i h (known arch nr h))
leads_of (Some (Branch test X)) i arch nr h = Some (to i.jt i.jf h)
leads_of (Some op) i arch nr h = Some (to 0 0 (held_after op i.k h))

-- a step leads to one of two places, and there this is known of A; or it ends the run
abbrev pub LeadsOn : ℕ → ℕ → Option Ways → Step → Type 0
LeadsOn arch nr ways Stuck = Unit {0}
LeadsOn arch nr None (Ends word) = Unit {0}
LeadsOn arch nr None (Goes skip s) = ⊥
LeadsOn arch nr (Some ways) (Ends word) = ⊥
LeadsOn arch nr (Some ways) (Goes skip s) = ((skip ≡ ways.first) ⊎ (skip ≡ ways.second)) × Held arch nr ways.holds s.a
