-- What code answers from a target on, and what the paths from there cost.
use Rattle.std.specs.Prelude.{ℕ, ◌≡◌, ◌≤◌, ◌<◌, ◌+◌, ◌⊎◌, if◌then◌else◌, List, length, max, slice_get, slice_index, Option, Some}
use Rattle.bpf_insn.specs.declared.code.Test.{Test}
use Rattle.bpf_insn.specs.declared.code.Test.TheVariants.{Equal, AtLeast}
use Rattle.bpf_insn.specs.declared.code.Operation.TheVariants.{Jump}
use Rattle.bpf_insn.specs.declared.instruction.Insn.{Insn}
use Rattle.bpf_insn.specs.Code.{operation_of}
use Rattle.bpf_insn.specs.Machine.{holds}
use Rattle.rule_compile.specs.declared.label.Label.{Label}
use Rattle.rule_compile.specs.declared.label.Target.{Target}
use Rattle.rule_compile.specs.declared.label.Target.TheVariants.{Place, Return}
use Rattle.rule_compile.specs.declared.label.Exits.{Exits}
use Rattle.rule_compile.specs.Shape.{answer, weight, depth}
use Rattle.rule_compile.specs.inner.Code.{Grows, IsIn, position}
use Rattle.rule_compile.specs.inner.Emitted.{AreFine}
use Rattle.rule_compile.specs.Steady.{Held, IsSteady, Tells}
use Rattle.rule_compile.specs.inner.Runs.{gives_from, runs}
use Rattle.rule_compile.specs.inner.Steadily.{IsSteadyAt}

-- the answer from a target on
abbrev pub goes : List Insn → Target → Option ℕ → List ℕ → Option ℕ
goes code (Place place) held r = answer code (position code place) held r
goes code (Return word) held r = Some word

-- the weight of a way to the target, with a jump to it
abbrev pub cost : List Insn → Target → ℕ
cost code (Place place) = 1 + weight code (position code place)
cost code (Return word) = 6

-- the comparisons on the longest path from the target on
abbrev pub deep : List Insn → Target → ℕ
deep code (Place place) = depth code (position code place)
deep code (Return word) = 0

-- a conditional jump that is written next reaches the place, even after one more instruction, and the place leads to the target
pub record Reaches (old new : List Insn) (to : Target) (place : Label) : Type 0 where
  pub grows : Grows old new
  pub placed : IsIn new place
  pub near : length new < place.to_end + 255
  pub one : length new ≤ length old + 1
  pub runs : (a : ℕ) (r : List ℕ) → gives_from new (position new place) a r ≡ runs old to a r
  pub answers : (held : Option ℕ) (r : List ℕ) → answer new (position new place) held r ≡ goes old to held r
  pub weighs : weight new (position new place) ≤ cost old to
  pub shallow : depth new (position new place) ≤ deep old to
  pub steady : (h : Held) → IsSteadyAt old to h → IsSteady new (position new place) h
  pub fine : AreFine old → AreFine new

-- the instruction at the place jumps to another place
pub record JumpsTo (code : List Insn) (to place : Label) : Type 0 where
  pub jump : Insn
  pub stands : slice_get code (position code place) ≡ Some jump
  pub is_jump : operation_of jump.code ≡ Some Jump
  pub leads : to.to_end + jump.k + 1 ≡ place.to_end

-- the new code begins by a comparison of the word that is loaded, and goes on by how it comes out
pub record Branches (old new : List Insn) (test : Test) (k : ℕ) (exits : Exits) : Type 0 where
  pub grows : Grows old new
  pub runs : (a : ℕ) (r : List ℕ) → gives_from new 0 a r ≡ runs old (if holds test a k then exits.yes else exits.no) a r
  pub answers : (test ≡ Equal) ⊎ (test ≡ AtLeast) → (w : ℕ) (r : List ℕ)
      → answer new 0 (Some w) r ≡ goes old (if holds test (slice_index r w) k then exits.yes else exits.no) (Some w) r
  pub weighs : weight new 0 ≤ 1 + (cost old exits.yes + cost old exits.no)
  pub shallow : depth new 0 ≤ 1 + max (deep old exits.yes) (deep old exits.no)
  pub steady : (h : Held) → Tells test h → IsSteadyAt old exits.yes h → IsSteadyAt old exits.no h → IsSteady new 0 h
  pub fine : AreFine old → AreFine new
  pub short : length new ≤ length old + 3
