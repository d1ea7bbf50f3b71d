-- How many calls are possible, and what the paths of a filter cost.
use Rattle.std.proofs.Common.{◌≡◌, ℕ, zero, suc, ◌+◌, ◌*◌, ◌<◌, ◌≤◌, Bool, true, false, cond, List, [], ◌∷◌, refl, ap, sym, ◌∙◌}
use Rattle.std.proofs.Common.{subst, arith, max, ⊎_elim}
use Rattle.std.specs.Prelude.{◌&&◌, ◌==◌, if◌then◌else◌, Some, slice_get, Contains}
use Rattle.std.proofs.lemmas.Option.{same_Some}
use Rattle.std.proofs.lemmas.Bool.{cases_eq}
use Rattle.std.proofs.lemmas.Bool.Decides.{Decides-eqb}
use Rattle.std.proofs.lemmas.List.Folds.{Any-from_list_any}
use Rattle.machines.specs.declared.arch.Arch.{Arch}
use Rattle.machines.specs.Arch.{token_of}
use Rattle.cert_state.specs.declared.literal.Lit.{Lit}
use Rattle.bpf_insn.specs.declared.instruction.Insn.{Insn}
use Rattle.bpf_insn.specs.Code.{operation_of}
use Rattle.rule_compile.specs.Shape.{depth, depth_by, has_token, tokens, weight, weight_by}
use Rattle.certify.specs.inner.Counts.{CostsAt, Exclude, allows, count_below, inside, permits, unless}

-- ---- numbers and calls that pass a test

one_of : (a b c : Bool) → (a ≡ true → c ≡ true) → (b ≡ true → c ≡ true) → (a ≡ true → b ≡ true → ⊥) → cond a 1 0 + cond b 1 0 ≤ cond c 1 0
one_of true true c f g apart = absurd (apart refl refl)
one_of true false c f g apart = let e = f refl in rw e (omega arith)
one_of false true c f g apart = let e = g refl in rw e (omega arith)
one_of false false c f g apart = omega arith

-- two tests that exclude each other hold of no more numbers than a weaker one
below_parts : (n : ℕ) (f g h : ℕ → Bool) → ((u : ℕ) → f u ≡ true → h u ≡ true) → ((u : ℕ) → g u ≡ true → h u ≡ true)
    → ((u : ℕ) → f u ≡ true → g u ≡ true → ⊥) → count_below n f + count_below n g ≤ count_below n h
unfolding count_below
below_parts zero f g h a b apart = omega arith
below_parts (suc n) f g h a b apart = omega (arith, one_of (f n) (g n) (h n) (a n) (b n) (apart n), below_parts n f g h a b apart)

below_some : (n : ℕ) (f : ℕ → Bool) (u : ℕ) → u < n → f u ≡ true → 1 ≤ count_below n f
unfolding count_below
below_some zero f u less is = absurd (omega (arith, less))
below_some (suc n) f u less is = ⊎_elim
    (λ (here : u ≡ n). let e : f n ≡ true = sym (ap f here) ∙ is in rw e (omega arith))
    (λ (not : u ≡ n → ⊥). let rest = below_some n f u (omega (arith, less, not)) is in omega (arith, rest))
    (cases_eq u n)

below_most : (n : ℕ) (f : ℕ → Bool) → count_below n f ≤ n
unfolding count_below
below_most zero f = omega arith
below_most (suc n) f = let rest = below_most n f in omega (arith, rest, one_most (f n)) where
  one_most : (b : Bool) → cond b 1 0 ≤ 1
  one_most true = omega arith
  one_most false = omega arith

pub both_first : (a b : Bool) → (a && b) ≡ true → a ≡ true
both_first true b e = refl
both_first false b e = cc

pub both_second : (a b : Bool) → (a && b) ≡ true → b ≡ true
both_second true true e = refl
both_second true false e = cc
both_second false b e = cc

unless_parts : (b : Bool) (x y z : ℕ) → x + y ≤ z → unless b x + unless b y ≤ unless b z
unless_parts true x y z parts = omega arith
unless_parts false x y z parts = parts

unless_some : (b : Bool) (x r : ℕ) → (b ≡ false → 1 ≤ x) → (b ≡ true → 1 ≤ r) → 1 ≤ unless b x + r
unless_some true x r here there = let e = there refl in omega (arith, e)
unless_some false x r here there = let e = here refl in omega (arith, e)

unless_most : (b : Bool) (x r t : ℕ) → x ≤ 512 → r ≤ 512 * t → unless b x + r ≤ 512 * (if b then t else suc t)
unless_most true x r t few rest = omega (arith, rest)
unless_most false x r t few rest = omega (arith, few, rest)

-- what may be is split by two literals that exclude each other
pub inside_parts : (n : ℕ) (archs : List Arch) (known : List Lit) (l m : Lit) → Exclude l m
    → inside n archs (l ∷ known) + inside n archs (m ∷ known) ≤ inside n archs known
unfolding inside
inside_parts n [] known l m apart = omega arith
inside_parts n (arch ∷ archs) known l m apart =
    let t = token_of arch in
    let here = below_parts n (λ u. allows (l ∷ known) t u) (λ u. allows (m ∷ known) t u) (λ u. allows known t u)
    (λ u e. both_second (permits l t u) (allows known t u) e)
    (λ u e. both_second (permits m t u) (allows known t u) e)
    (λ u e f. apart t u (both_first (permits l t u) (allows known t u) e) (both_first (permits m t u) (allows known t u) f)) in
    let once = unless_parts (has_token t archs) (count_below n (λ u. allows (l ∷ known) t u)) (count_below n (λ u. allows (m ∷ known) t u))
    (count_below n (λ u. allows known t u)) here in
    omega (arith, once, inside_parts n archs known l m apart)

pub inside_some : (n : ℕ) (archs : List Arch) (known : List Lit) (arch : Arch) (u : ℕ) → Contains archs arch → u < n
    → allows known (token_of arch) u ≡ true → 1 ≤ inside n archs known
unfolding inside
inside_some n [] known arch u has less is = absurd (omega (arith, has.1))
inside_some n (a ∷ archs) known arch u (zero, lt, same) less is =
    let allowed = subst (λ b. allows known (token_of b) u ≡ true) (sym same) is in
    unless_some (has_token (token_of a) archs) (count_below n (λ nr. allows known (token_of a) nr)) (inside n archs known)
    (λ new. below_some n (λ nr. allows known (token_of a) nr) u less allowed)
    (λ shared.
    let other = Any-from_list_any (λ b. token_of b == token_of a) archs shared in
    let token : token_of other.1 ≡ token_of a = (Decides-eqb (token_of other.1) (token_of a)).0 other.4 in
    inside_some n archs known other.1 u (other.0, other.2, other.3) less (subst (λ t. allows known t u ≡ true) (sym token) allowed))
inside_some n (a ∷ archs) known arch u (suc k, lt, same) less is =
    let rest = inside_some n archs known arch u (k, omega (arith, lt), same) less is in
    omega (arith, rest)

pub inside_most : (archs : List Arch) (known : List Lit) → inside 512 archs known ≤ 512 * tokens archs
unfolding inside
inside_most [] known = omega arith
inside_most (a ∷ archs) known =
    unless_most (has_token (token_of a) archs) (count_below 512 (λ nr. allows known (token_of a) nr)) (inside 512 archs known)
    (tokens archs) (below_most 512 (λ nr. allows known (token_of a) nr)) (inside_most archs known)

-- ---- costs, by the instruction at a position

weight_is : (p : List Insn) (pc : ℕ) (i : Insn) (n : ℕ) → slice_get p pc ≡ Some i
    → ((rest : ℕ → ℕ) → ((skip : ℕ) → rest skip ≡ weight p (pc + 1 + skip)) → weight_by (operation_of i.code) i rest ≡ n) → weight p pc ≡ n
weight_is [] pc i n found step = cc
weight_is (x ∷ p) zero i n found step =
    ap (λ y. weight_by (operation_of y.code) y (weight p)) (same_Some x i found)
    ∙ step (weight p) (λ skip. let e : suc skip ≡ 0 + 1 + skip = omega arith in ap (weight (x ∷ p)) e)
weight_is (x ∷ p) (suc pc) i n found step =
    weight_is p pc i n found
    (λ rest same. step rest (λ skip. let e : suc (pc + 1 + skip) ≡ suc pc + 1 + skip = omega arith in
    same skip ∙ ap (weight (x ∷ p)) e))

depth_is : (p : List Insn) (pc : ℕ) (i : Insn) (n : ℕ) → slice_get p pc ≡ Some i
    → ((rest : ℕ → ℕ) → ((skip : ℕ) → rest skip ≡ depth p (pc + 1 + skip)) → depth_by (operation_of i.code) i rest ≡ n) → depth p pc ≡ n
depth_is [] pc i n found step = cc
depth_is (x ∷ p) zero i n found step =
    ap (λ y. depth_by (operation_of y.code) y (depth p)) (same_Some x i found)
    ∙ step (depth p) (λ skip. let e : suc skip ≡ 0 + 1 + skip = omega arith in ap (depth (x ∷ p)) e)
depth_is (x ∷ p) (suc pc) i n found step =
    depth_is p pc i n found
    (λ rest same. step rest (λ skip. let e : suc (pc + 1 + skip) ≡ suc pc + 1 + skip = omega arith in same skip ∙ ap (depth (x ∷ p)) e))

pub costs : (p : List Insn) (pc : ℕ) (i : Insn) → slice_get p pc ≡ Some i → CostsAt p pc i
costs p pc i found = record {
  return = λ e. weight_is p pc i 5 found (λ rest same. ap (λ o. weight_by o i rest) e);
  jump = λ e. (
    weight_is p pc i (1 + weight p (pc + 1 + i.k)) found (λ rest same. ap (λ o. weight_by o i rest) e ∙ ap (λ n. 1 + n) (same i.k)),
    depth_is p pc i (depth p (pc + 1 + i.k)) found (λ rest same. ap (λ o. depth_by o i rest) e ∙ same i.k),
  );
  load = λ e. (
    weight_is p pc i (1 + weight p (pc + 1 + 0)) found (λ rest same. ap (λ o. weight_by o i rest) e ∙ ap (λ n. 1 + n) (same 0)),
    depth_is p pc i (depth p (pc + 1 + 0)) found (λ rest same. ap (λ o. depth_by o i rest) e ∙ same 0),
  );
  fork = λ test c e. (
    weight_is p pc i (1 + (weight p (pc + 1 + i.jt) + weight p (pc + 1 + i.jf))) found
        (λ rest same. ap (λ o. weight_by o i rest) e ∙ ap (λ n. 1 + (n + rest i.jf)) (same i.jt)
        ∙ ap (λ n. 1 + (weight p (pc + 1 + i.jt) + n)) (same i.jf)),
    depth_is p pc i (1 + max (depth p (pc + 1 + i.jt)) (depth p (pc + 1 + i.jf))) found
        (λ rest same. ap (λ o. depth_by o i rest) e ∙ ap (λ n. 1 + max n (rest i.jf)) (same i.jt)
        ∙ ap (λ n. 1 + max (depth p (pc + 1 + i.jt)) n) (same i.jf)),
  );
}
