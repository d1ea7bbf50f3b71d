-- Code that is written from its end to its beginning, and places in it.
use Rattle.std.specs.Prelude.{ℕ, ◌≡◌, ◌≤◌, ◌-◌, ⊤, List, ◌++◌, length}
use Rattle.bpf_insn.specs.Code.{code_of}
use Rattle.bpf_insn.specs.declared.code.Operation.{Operation}
use Rattle.bpf_insn.specs.declared.instruction.Insn.{Insn}
use Rattle.rule_compile.specs.declared.label.Label.{Label}
use Rattle.rule_compile.specs.declared.label.Target.{Target}
use Rattle.rule_compile.specs.declared.label.Target.TheVariants.{Place, Return}
use Rattle.rule_compile.specs.declared.label.Exits.{Exits}

-- the place is in the code
abbrev pub IsIn : List Insn → Label → Type 0
IsIn code place = (1 ≤ place.to_end) × (place.to_end ≤ length code)

-- the place is the first instruction of the code
abbrev pub IsStart : List Insn → Label → Type 0
IsStart code place = (1 ≤ place.to_end) × (place.to_end ≡ length code)

-- how many instructions stand before the place
abbrev pub position : List Insn → Label → ℕ
position code place = length code - place.to_end

-- where it is a place, it is in the code
abbrev pub IsTarget : List Insn → Target → Type 0
IsTarget code (Place place) = IsIn code place
IsTarget code (Return _) = ⊤

-- both exits can be gone to from the code
pub record HasExits (code : List Insn) (exits : Exits) : Type 0 where
  pub yes : IsTarget code exits.yes
  pub no : IsTarget code exits.no

-- the new code is the old with more in front of it
pub record Grows (old new : List Insn) : Type 0 where
  pub more : List Insn
  pub is : new ≡ more ++ old
  pub longer : length old ≤ length new

-- an instruction that is no conditional jump
abbrev pub insn_of : Operation → ℕ → Insn
insn_of operation k = record { code = code_of operation; jt = 0; jf = 0; k = k }
