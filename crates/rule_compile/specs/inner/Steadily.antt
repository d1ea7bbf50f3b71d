-- Code that compares steadily from a target on.
use Rattle.std.specs.Prelude.{⊤, ℕ, List, Option, Some, None}
use Rattle.std.specs.List.{All}
use Rattle.bpf_insn.specs.declared.instruction.Insn.{Insn}
use Rattle.rule_compile.specs.declared.label.Target.{Target}
use Rattle.rule_compile.specs.declared.label.Target.TheVariants.{Place, Return}
use Rattle.rule_compile.specs.declared.written.Written.{Written}
use Rattle.rule_compile.specs.Steady.{Held, Whole, Part, IsSteady}
use Rattle.rule_compile.specs.inner.Code.{position}

-- from the target on, where A holds this
abbrev pub IsSteadyAt : List Insn → Target → Held → Type 0
IsSteadyAt code (Place place) h = IsSteady code (position code place) h
IsSteadyAt code (Return word) h = ⊤

-- whatever A holds
abbrev pub IsAlwaysSteady : List Insn → Target → Type 0
IsAlwaysSteady code to = (h : Held) → IsSteadyAt code to h

-- what A holds where the word at an offset is loaded, or bits under a mask
abbrev pub held_by : Option ℕ → Held
held_by None = Part
held_by (Some offset) = Whole

-- each block that is written is so, whatever A holds
abbrev pub AreSteady : List Insn → List Written → Type 0
AreSteady code written = All (λ w. IsAlwaysSteady code w.target) written
