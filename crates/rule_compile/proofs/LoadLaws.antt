-- Code that begins by a load compares steadily, whatever A holds.
use Rattle.std.proofs.Common.{◌≡◌, ℕ, List, [], ◌∷◌, arith, subst, sym}
use Rattle.std.proofs.lemmas.List.Elements.{All-nil}
use Rattle.bpf_insn.specs.declared.code.Arithmetic.TheVariants.{And}
use Rattle.bpf_insn.specs.declared.code.Operand.TheVariants.{K}
use Rattle.bpf_insn.specs.declared.code.Operation.TheVariants.{Compute, LoadWord}
use Rattle.bpf_insn.specs.declared.instruction.Insn.{Insn}
use Rattle.rule_compile.specs.declared.label.Label.{Label}
use Rattle.rule_compile.specs.declared.label.Target.TheVariants.{Place}
use Rattle.rule_compile.specs.declared.written.Written.{Written}
use Rattle.rule_compile.specs.Steady.{Held, IsSteady, Part, Whole}
use Rattle.rule_compile.specs.inner.Code.{IsStart, insn_of, position}
use Rattle.rule_compile.specs.inner.Steadily.{AreSteady, IsAlwaysSteady, IsSteadyAt}
use Rattle.rule_compile.proofs.SteadyLaws.{steady_load, steady_mask}

-- where the code begins
pub start_steady : (code : List Insn) (place : Label) → IsStart code place → (h : Held) → IsSteady code 0 h → IsSteadyAt code (Place place) h
start_steady code place start h s = let first : 0 ≡ position code place = omega (arith, start.1) in subst (λ n. IsSteady code n h) first s

pub loaded_steady : (old new : List Insn) (offset : ℕ) (place : Label) → new ≡ insn_of LoadWord offset ∷ old → IsStart new place
    → IsSteady old 0 Whole → IsAlwaysSteady new (Place place)
loaded_steady old new offset place written start s h =
    start_steady new place start h (subst (λ code. IsSteady code 0 h) (sym written) (steady_load offset old h s))

pub masked_steady : (begun masked new : List Insn) (mask offset : ℕ) (place : Label) → masked ≡ insn_of (Compute And K) mask ∷ begun
    → new ≡ insn_of LoadWord offset ∷ masked → IsStart new place → IsSteady begun 0 Part → IsAlwaysSteady new (Place place)
masked_steady begun masked new mask offset place anded written start s =
    loaded_steady masked new offset place written start
    (subst (λ code. IsSteady code 0 Whole) (sym anded) (steady_mask mask begun Whole tt s))

-- no block is written
pub steady_none : (code : List Insn) (written : List Written) → written ≡ [] → AreSteady code written
steady_none code written none = subst (AreSteady code) (sym none) (All-nil (λ (w : Written). IsAlwaysSteady code w.target))
