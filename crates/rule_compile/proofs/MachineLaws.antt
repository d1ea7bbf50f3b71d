-- What the filters of calls answer at a position, and what their paths cost from there.
use Rattle.std.proofs.Common.{◌≡◌, ℕ, zero, suc, ◌+◌, List, [], ◌∷◌, ◌++◌, length, ap, ◌∙◌, arith}
use Rattle.std.specs.Prelude.{Option, Some, slice_get}
use Rattle.std.proofs.lemmas.Option.{same_Some}
use Rattle.bpf_insn.specs.declared.instruction.Insn.{Insn}
use Rattle.bpf_insn.specs.Code.{operation_of}
use Rattle.rule_compile.specs.Moves.{move_at}
use Rattle.rule_compile.specs.Shape.{answer, answer_by, weight, weight_by, depth, depth_by}

-- the answer at a position, by what the instruction there does
pub answer_is : (p : List Insn) (pc : ℕ) (i : Insn) (held : Option ℕ) (r : List ℕ) (o : Option ℕ) → slice_get p pc ≡ Some i
    → ((rest : ℕ → Option ℕ → Option ℕ) → ((skip : ℕ) (now : Option ℕ) → rest skip now ≡ answer p (pc + 1 + skip) now r)
    → answer_by (move_at (operation_of i.code) i.k held) i r rest ≡ o)
    → answer p pc held r ≡ o
answer_is [] pc i held r o found step = cc
answer_is (x ∷ p) zero i held r o found step =
    let same : x ≡ i = same_Some x i found in
    let rest : ℕ → Option ℕ → Option ℕ = λ skip now. answer p skip now r in
    ap (λ y. answer_by (move_at (operation_of y.code) y.k held) y r rest) same
    ∙ step rest (λ skip now. let e : suc skip ≡ 0 + 1 + skip = omega arith in ap (λ k. answer (x ∷ p) k now r) e)
answer_is (x ∷ p) (suc pc) i held r o found step =
    answer_is p pc i held r o found (λ rest same. step rest (λ skip now.
    let e : suc (pc + 1 + skip) ≡ suc pc + 1 + skip = omega arith in
    same skip now ∙ ap (λ k. answer (x ∷ p) k now r) e))

-- the weight at a position
pub weight_is : (p : List Insn) (pc : ℕ) (i : Insn) (n : ℕ) → slice_get p pc ≡ Some i
    → ((rest : ℕ → ℕ) → ((skip : ℕ) → rest skip ≡ weight p (pc + 1 + skip)) → weight_by (operation_of i.code) i rest ≡ n) → weight p pc ≡ n
weight_is [] pc i n found step = cc
weight_is (x ∷ p) zero i n found step =
    ap (λ y. weight_by (operation_of y.code) y (weight p)) (same_Some x i found)
    ∙ step (weight p) (λ skip. let e : suc skip ≡ 0 + 1 + skip = omega arith in ap (weight (x ∷ p)) e)
weight_is (x ∷ p) (suc pc) i n found step =
    weight_is p pc i n found (λ rest same. step rest (λ skip. let e : suc
    (pc + 1 + skip) ≡ suc pc + 1 + skip = omega arith in same skip ∙ ap (weight (x ∷ p)) e))

pub depth_is : (p : List Insn) (pc : ℕ) (i : Insn) (n : ℕ) → slice_get p pc ≡ Some i
    → ((rest : ℕ → ℕ) → ((skip : ℕ) → rest skip ≡ depth p (pc + 1 + skip)) → depth_by (operation_of i.code) i rest ≡ n) → depth p pc ≡ n
depth_is [] pc i n found step = cc
depth_is (x ∷ p) zero i n found step =
    ap (λ y. depth_by (operation_of y.code) y (depth p)) (same_Some x i found)
    ∙ step (depth p) (λ skip. let e : suc skip ≡ 0 + 1 + skip = omega arith in ap (depth (x ∷ p)) e)
depth_is (x ∷ p) (suc pc) i n found step =
    depth_is p pc i n found (λ rest same. step rest (λ skip. let e : suc (pc + 1 + skip) ≡ suc pc + 1 + skip = omega arith in same skip
    ∙ ap (depth (x ∷ p)) e))

-- what is written stays as more is written in front of it
pub answer_more : (more code : List Insn) (k : ℕ) (held : Option ℕ) (r : List ℕ)
    → answer (more ++ code) (length more + k) held r ≡ answer code k held r
answer_more [] code k held r = let e : 0 + k ≡ k = omega arith in ap (λ n. answer code n held r) e
answer_more (m ∷ more) code k held r =
    let e : suc (length more) + k ≡ suc (length more + k) = omega arith in
    ap (λ n. answer (m ∷ (more ++ code)) n held r) e ∙ answer_more more code k held r

pub weight_more : (more code : List Insn) (k : ℕ) → weight (more ++ code) (length more + k) ≡ weight code k
weight_more [] code k = let e : 0 + k ≡ k = omega arith in ap (weight code) e
weight_more (m ∷ more) code k =
    let e : suc (length more) + k ≡ suc (length more + k) = omega arith in
    ap (weight (m ∷ (more ++ code))) e ∙ weight_more more code k

pub depth_more : (more code : List Insn) (k : ℕ) → depth (more ++ code) (length more + k) ≡ depth code k
depth_more [] code k = let e : 0 + k ≡ k = omega arith in ap (depth code) e
depth_more (m ∷ more) code k =
    let e : suc (length more) + k ≡ suc (length more + k) = omega arith in
    ap (depth (m ∷ (more ++ code))) e ∙ depth_more more code k
