-- How one filter is put above another: in the place of each of its returns stands what both answer.
use Rattle.std.specs.Prelude.{◌≡◌, ◌≤◌, ◌+◌, ◌==◌, ℕ, Bool, true, false, List, [], ◌∷◌, ◌++◌, length, Option, Some}
use Rattle.std.specs.Prelude.{if◌then◌else◌, reverse}
use Rattle.std.specs.List.{All, AllZip, list_all}
use Rattle.std.specs.Option.{option_map}
use Rattle.call_record.specs.Verdict.{allow, strictest_of}
use Rattle.bpf_insn.specs.declared.instruction.Insn.{Insn}
use Rattle.bpf_insn.specs.Machine.{Registers, ending, start}
use Rattle.flatten.specs.declared.turns.Turn.{Turn}
use Rattle.flatten.specs.declared.turns.Turn.TheVariants.{Answers, Passes}
use Rattle.flatten.specs.declared.places.Turned.{Turned}
use Rattle.flatten.specs.Stack.{GivesVerdict, IsFilter}
use Rattle.flatten.specs.Unflat.{is_plain, is_return}

-- the verdict that is given from a position on
abbrev pub given : List Insn → ℕ → Registers → List ℕ → Option ℕ
given p pc s r = option_map (λ (end : ℕ × ℕ). end.0) (ending p pc s r)

abbrev pub ArePlain : List Insn → Type 0
ArePlain p = list_all is_plain p ≡ true

abbrev pub insn : ℕ → ℕ → ℕ → ℕ → Insn
insn code jt jf k = record { code = code; jt = jt; jf = jf; k = k }

-- the return of a number, and a jump over so many instructions
abbrev pub return_of : ℕ → Insn
return_of k = insn 0x06 0 0 k

abbrev pub jump_over : ℕ → Insn
jump_over k = insn 0x05 0 0 k

-- the verdict that counts of a newer filter's and an older one's
abbrev pub both : ℕ → ℕ → ℕ
both newer older = strictest_of (newer ∷ older ∷ [])

-- a program that returns the verdict that counts where another returns its own
abbrev pub mapped_insn : ℕ → Insn → Insn
mapped_insn word i = if is_return i then return_of (both word i.k) else i

abbrev pub mapped : ℕ → List Insn → List Insn
mapped word [] = []
mapped word (i ∷ p) = mapped_insn word i ∷ mapped word p

-- the same, which begins with empty registers
abbrev pub block : ℕ → List Insn → List Insn
block word older = insn 0x00 0 0 0 ∷ insn 0x01 0 0 0 ∷ mapped word older

-- an instruction, if it is a return, gives way to this answer
abbrev pub gives : ℕ → ℕ → Insn → Bool
gives word answer i = if is_return i then both word i.k == answer else true

-- what stands in the place of a return answers as both filters
abbrev pub IsTurn : List Insn → List Insn → ℕ → Turn → Type 0
IsTurn older area word (Answers c) = (r : List ℕ) (v : ℕ) → given older 0 start r ≡ Some v → both word v ≡ c
IsTurn older area word (Passes at) =
    (at ≤ 4096)
    × ((r : List ℕ) (s : Registers) (v : ℕ) → s.scratch ≡ start.scratch → given older 0 start r ≡ Some v
    → given area at s r ≡ Some (both word v))

-- its jump fits
abbrev pub Fits : Turn → Type 0
Fits (Answers c) = Unit {0}
Fits (Passes at) = at ≤ 4096

-- instructions are added to the area, all plain; it stays small
pub record IsMore (old new : List Insn) : Type 0 where
  pub added : List Insn
  pub is : new ≡ old ++ added
  pub plain : ArePlain new
  pub small : length new ≤ 4096

-- the same of words with their turns, whatever is added to the area
abbrev pub AreTurns : List Insn → List Insn → List Turned → Type 0
AreTurns older area turns = (more : List Insn) → All (λ t. IsTurn older (area ++ more) t.word t.turn) turns

-- the instruction in the place of a return, with so many instructions behind it before the area begins
abbrev pub insn_of : Turn → ℕ → Insn
insn_of (Answers c) left = return_of c
insn_of (Passes at) left = jump_over (left + at)

abbrev pub IsTurnedBy : Bool → List Insn → List Insn → ℕ → Insn → Insn → Type 0
IsTurnedBy true older area left i o = (turn : Turn) × IsTurn older area i.k turn × (o ≡ insn_of turn left)
IsTurnedBy false older area left i o = o ≡ i

-- an instruction, and the one in its place
abbrev pub IsTurned : List Insn → List Insn → ℕ → Insn → Insn → Type 0
IsTurned older area left i o = IsTurnedBy (is_return i) older area left i o

-- those of a program
abbrev pub AreTurned : List Insn → List Insn → List Insn → List Insn → Type 0
AreTurned older area [] [] = Unit {0}
AreTurned older area [] (o ∷ q) = ⊥
AreTurned older area (i ∷ p) [] = ⊥
AreTurned older area (i ∷ p) (o ∷ q) = IsTurned older area (length p) i o × AreTurned older area p q

-- where both filters give a verdict, the program gives the one that counts
abbrev pub IsAbove : List Insn → List Insn → List Insn → Type 0
IsAbove newer older program =
    (r : List ℕ) (w v : ℕ) → given newer 0 start r ≡ Some w → given older 0 start r ≡ Some v
    → given program 0 start r ≡ Some (both w v)

-- the program that allows each call
abbrev pub IsLowest : List Insn → Type 0
IsLowest program = program ≡ return_of allow ∷ []

-- it is true only where this holds
abbrev pub Shows : Bool → Type 0 → Type 0
Shows true P = P
Shows false P = Unit {0}

-- the program gives the verdict that counts of those that the filters give
pub record AnswersAs (filters : List (List ℕ)) (program : List Insn) : Type 0 where
  pub stack : All IsFilter filters
  pub right : (r : List ℕ) (vs : List ℕ) → AllZip (GivesVerdict r) filters vs → given program 0 start r ≡ Some (strictest_of (reverse vs))
