-- How code compares, as more of it is written, and by its first instruction.
use Rattle.std.proofs.Common.{◌≡◌, ℕ, zero, suc, ◌+◌, ◌≤◌, List, [], ◌∷◌, ◌++◌, length, ap, sym, subst, arith, length-append}
use Rattle.std.specs.Prelude.{Some, slice_get}
use Rattle.std.proofs.lemmas.Option.{same_Some}
use Rattle.bpf_insn.specs.declared.code.Operand.TheVariants.{K}
use Rattle.bpf_insn.specs.declared.code.Test.{Test}
use Rattle.bpf_insn.specs.declared.code.Arithmetic.TheVariants.{And}
use Rattle.bpf_insn.specs.declared.code.Operation.TheVariants.{Branch, Compute, Jump, LoadWord, ReturnK}
use Rattle.bpf_insn.specs.declared.instruction.Insn.{Insn}
use Rattle.bpf_insn.specs.Code.{operation_of}
use Rattle.rule_compile.specs.declared.label.Label.{Label}
use Rattle.rule_compile.specs.declared.label.Target.{Target}
use Rattle.rule_compile.specs.declared.label.Target.TheVariants.{Place, Return}
use Rattle.rule_compile.specs.declared.written.Written.{Written}
use Rattle.rule_compile.specs.Steady.{Held, IsOfWord, IsSteady, Part, Tells, Whole, steady_by}
use Rattle.rule_compile.specs.inner.Code.{Grows, IsIn, IsStart, IsTarget, insn_of, position}
use Rattle.rule_compile.specs.inner.Runs.{AreIn}
use Rattle.rule_compile.specs.inner.Steadily.{AreSteady, IsAlwaysSteady, IsSteadyAt}
use Rattle.rule_compile.proofs.RunsLaws.{and_code, load_code}

-- ---- as more is written in front

pub steady_more : (more code : List Insn) (k : ℕ) (h : Held) → IsSteady code k h → IsSteady (more ++ code) (length more + k) h
steady_more [] code k h s = let e : k ≡ 0 + k = omega arith in subst (λ n. IsSteady code n h) e s
steady_more (i ∷ more) code k h s =
    let e : suc (length more + k) ≡ suc (length more) + k = omega arith in
    subst (λ n. IsSteady (i ∷ (more ++ code)) n h) e (steady_more more code k h s)

-- from a target on
pub steady_kept : (old new : List Insn) → Grows old new → (to : Target) → IsTarget old to → (h : Held) → IsSteadyAt old to h
    → IsSteadyAt new to h
steady_kept old new g (Return w) at h s = tt
steady_kept old new g (Place l) at h s =
    let there : length g.more + position old l ≡ position new l = omega (arith, ap length g.is, length-append g.more old, at.1) in
    subst (λ code. IsSteady code (position new l) h) (sym g.is)
    (subst (λ n. IsSteady (g.more ++ old) n h) there (steady_more g.more old (position old l) h s))

pub always_kept : (old new : List Insn) → Grows old new → (to : Target) → IsTarget old to → IsAlwaysSteady old to → IsAlwaysSteady new to
always_kept old new g to at s h = steady_kept old new g to at h (s h)

-- from each block that is written
pub are_steady_kept : (old new : List Insn) → Grows old new → (written : List Written) → AreIn old written → AreSteady old written
    → AreSteady new written
are_steady_kept old new g written placed s k d below = always_kept old new g _ (placed k d below) (s k d below)

-- from a place that the code begins at
pub steady_at_start : (code : List Insn) (place : Label) → IsStart code place → (h : Held) → IsSteady code 0 h
    → IsSteadyAt code (Place place) h
steady_at_start code place start h s =
    let first : 0 ≡ position code place = omega (arith, start.1) in
    subst (λ n. IsSteady code n h) first s

-- ---- an instruction in front

pub steady_return : (i : Insn) (code : List Insn) → operation_of i.code ≡ Some ReturnK → (h : Held) → IsSteady (i ∷ code) 0 h
steady_return i code is h = subst (λ o. steady_by o i h (λ skip now. IsSteady code skip now)) (sym is) tt

pub steady_jump_front : (jump : Insn) (code : List Insn) (to : Label) → operation_of jump.code ≡ Some Jump → IsIn code to
    → jump.k + to.to_end ≡ length code → (h : Held) → IsSteady code (position code to) h → IsSteady (jump ∷ code) 0 h
steady_jump_front jump code to is at leads h s =
    let there : position code to ≡ jump.k = omega (arith, leads, at.1) in
    subst (λ o. steady_by o jump h (λ skip now. IsSteady code skip now)) (sym is) (subst (λ n. IsSteady code n h) there s)

pub steady_load : (k : ℕ) (code : List Insn) (h : Held) → IsSteady code 0 Whole → IsSteady (insn_of LoadWord k ∷ code) 0 h
steady_load k code h s = subst (λ o. steady_by o (insn_of LoadWord k) h (λ skip now. IsSteady code skip now)) (sym load_code) s

pub steady_mask : (k : ℕ) (code : List Insn) (h : Held) → IsOfWord h → IsSteady code 0 Part
    → IsSteady (insn_of (Compute And K) k ∷ code) 0 h
steady_mask k code h held s =
    subst (λ o. steady_by o (insn_of (Compute And K) k) h (λ skip now. IsSteady code skip now)) (sym and_code) (held, s)

pub steady_branch : (i : Insn) (code : List Insn) (test : Test) → operation_of i.code ≡ Some (Branch test K) → (h : Held) → Tells test h
    → IsSteady code i.jt h → IsSteady code i.jf h → IsSteady (i ∷ code) 0 h
steady_branch i code test is h tells by_yes by_no =
    subst (λ o. steady_by o i h (λ skip now. IsSteady code skip now)) (sym is) (tells, by_yes, by_no)

-- ---- an instruction in the code

-- a jump
pub steady_jump : (code : List Insn) (pc : ℕ) (jump : Insn) (h : Held) → slice_get code pc ≡ Some jump → operation_of jump.code ≡ Some Jump
    → IsSteady code (pc + 1 + jump.k) h → IsSteady code pc h
steady_jump [] pc jump h stands is s = cc
steady_jump (i ∷ code) zero jump h stands is s =
    let e : 0 + 1 + jump.k ≡ suc jump.k = omega arith in
    let on : IsSteady code jump.k h = subst (λ n. IsSteady (i ∷ code) n h) e s in
    subst (λ i. IsSteady (i ∷ code) 0 h) (sym (same_Some i jump stands))
    (subst (λ o. steady_by o jump h (λ skip now. IsSteady code skip now)) (sym is) on)
steady_jump (i ∷ code) (suc pc) jump h stands is s =
    let e : suc pc + 1 + jump.k ≡ suc (pc + 1 + jump.k) = omega arith in
    steady_jump code pc jump h stands is (subst (λ n. IsSteady (i ∷ code) n h) e s)

-- a return
pub steady_at_return : (code : List Insn) (pc : ℕ) (i : Insn) (h : Held) → slice_get code pc ≡ Some i → operation_of i.code ≡ Some ReturnK
    → IsSteady code pc h
steady_at_return [] pc i h stands is = cc
steady_at_return (x ∷ code) zero i h stands is =
    subst (λ x. IsSteady (x ∷ code) 0 h) (sym (same_Some x i stands)) (steady_return i code is h)
steady_at_return (x ∷ code) (suc pc) i h stands is = steady_at_return code pc i h stands is

-- behind a load
steady_past : (code : List Insn) (pc : ℕ) (i : Insn) (h : Held) → slice_get code pc ≡ Some i → operation_of i.code ≡ Some LoadWord
    → IsSteady code pc h → IsSteady code (pc + 1) Whole
steady_past [] pc i h stands is s = cc
steady_past (x ∷ code) zero i h stands is s =
    let first : IsSteady (i ∷ code) 0 h = subst (λ x. IsSteady (x ∷ code) 0 h) (same_Some x i stands) s in
    let on : IsSteady code 0 Whole = subst (λ o. steady_by o i h (λ skip now. IsSteady code skip now)) is first in
    let e : 1 ≡ 0 + 1 = omega arith in
    subst (λ n. IsSteady (x ∷ code) n Whole) e on
steady_past (x ∷ code) (suc pc) i h stands is s =
    let e : suc (pc + 1) ≡ suc pc + 1 = omega arith in
    subst (λ n. IsSteady (x ∷ code) n Whole) e (steady_past code pc i h stands is s)

pub past_steady : (code : List Insn) (offset : ℕ) (place after : Label) → IsIn code place → 1 ≤ after.to_end
    → after.to_end + 1 ≡ place.to_end → slice_get code (position code place) ≡ Some (insn_of LoadWord offset)
    → IsAlwaysSteady code (Place place) → IsSteadyAt code (Place after) Whole
past_steady code offset place after at some next stands s =
    let there : position code place + 1 ≡ position code after = omega (arith, at.1, next, some) in
    subst (λ n. IsSteady code n Whole) there
    (steady_past code (position code place) (insn_of LoadWord offset) Whole stands load_code (s Whole))
