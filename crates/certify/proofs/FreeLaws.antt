-- Among more numbers than there are literals one is possible.
use Rattle.std.proofs.Common.{◌≡◌, ℕ, suc, zero, ◌+◌, ◌^◌, ◌<◌, ◌≤◌, List, [], ◌∷◌, length, sym, ◌∙◌, arith, inl, inr, ◌⊎◌, ⊎_elim}
use Rattle.std.specs.Prelude.{Contains}
use Rattle.std.specs.List.{AllByRecursion}
use Rattle.std.proofs.lemmas.List.Elements.{All-from_recursion, recursion_from_All}
use Rattle.std.proofs.lemmas.Bool.{cases_eq}
use Rattle.cert_state.specs.declared.literal.Lit.{Lit}
use Rattle.cert_state.specs.declared.literal.Lit.TheVariants.{In, Bits, NotBits}
use Rattle.cert_state.specs.Literals.{all_bits}
use Rattle.cert_state.specs.Points.{IsPoint, IsRange}
use Rattle.certify.proofs.PointFacts.{Asks, all_between}

-- ---- a number beside a list

abbrev Avoids : ℕ → List ℕ → Type 0
Avoids u ds = AllByRecursion (λ d. d ≡ u → ⊥) ds

-- a number is beside a list, or the list has one less beside it
split_off : (x : ℕ) (ds : List ℕ)
    → Avoids x ds ⊎ ((less : List ℕ) × (length less < length ds) × ((u : ℕ) → (x ≡ u → ⊥) → Avoids u less → Avoids u ds))
split_off x [] = inl tt
split_off x (d ∷ ds) = ⊎_elim
    (λ (same : d ≡ x). inr (ds, omega arith, λ u differ avoids. ((λ e. differ (sym same ∙ e)), avoids)))
    (λ (other : d ≡ x → ⊥). ⊎_elim
    (λ (none : Avoids x ds). inl (other, none))
    (λ (some : (less : List ℕ) × (length less < length ds) × ((u : ℕ) → (x ≡ u → ⊥) → Avoids u less → Avoids u ds)). inr
    (d ∷ some.0, omega (arith, some.1), λ u differ avoids. (avoids.0, some.2 u differ avoids.1)))
    (split_off x ds))
    (cases_eq d x)

-- of n + 1 numbers one is beside n
free : (n : ℕ) (ds : List ℕ) (from : ℕ) → length ds ≤ n → (u : ℕ) × (from ≤ u) × (u ≤ from + n) × Avoids u ds
free zero [] from few = (from, omega arith, omega arith, tt)
free zero (d ∷ ds) from few = absurd (omega (arith, few))
free (suc n) ds from few = ⊎_elim
    (λ (none : Avoids (from + suc n) ds). (from + suc n, omega arith, omega arith, none))
    (λ (some : (less : List ℕ) × (length less < length ds) × ((u : ℕ) → (from + suc n ≡ u → ⊥) → Avoids u less → Avoids u ds)).
    let rest = free n some.0 from (omega (arith, some.1, few)) in
    (rest.0, rest.1, omega (arith, rest.2), some.2 rest.0 (λ e. omega (arith, e, rest.2)) rest.3))
    (split_off (from + suc n) ds)

-- ---- the numbers that literals exclude

abbrev excluded : List Lit → List ℕ
excluded [] = []
excluded (NotBits w m d ∷ ls) = d ∷ excluded ls
excluded (_ ∷ ls) = excluded ls

few_excluded : (ls : List Lit) → length (excluded ls) ≤ length ls
few_excluded [] = omega arith
few_excluded (NotBits w m d ∷ ls) = omega (arith, few_excluded ls)
few_excluded (In w a b ∷ ls) = omega (arith, few_excluded ls)
few_excluded (Bits w m d ∷ ls) = omega (arith, few_excluded ls)

not_excluded : (ls : List Lit) (w m u : ℕ) → Avoids u (excluded ls) → Contains ls (NotBits w m u) → ⊥
not_excluded [] w m u avoids (k, lt, at) = omega (arith, lt)
not_excluded (NotBits x n d ∷ ls) w m u avoids (zero, lt, at) = avoids.0 (let e : NotBits x n d ≡ NotBits w m u = at in cc)
not_excluded (NotBits x n d ∷ ls) w m u avoids (suc k, lt, at) = not_excluded ls w m u avoids.1 (k, omega (arith, lt), at)
not_excluded (In x a b ∷ ls) w m u avoids (zero, lt, at) = let e : In x a b ≡ NotBits w m u = at in cc
not_excluded (In x a b ∷ ls) w m u avoids (suc k, lt, at) = not_excluded ls w m u avoids (k, omega (arith, lt), at)
not_excluded (Bits x n d ∷ ls) w m u avoids (zero, lt, at) = let e : Bits x n d ≡ NotBits w m u = at in cc
not_excluded (Bits x n d ∷ ls) w m u avoids (suc k, lt, at) = not_excluded ls w m u avoids (k, omega (arith, lt), at)

-- so between two points that are far apart there is another
pub point_between : (known : List Lit) (lo hi from : ℕ) → IsRange known 0 lo hi → lo ≤ from → from + length known ≤ hi
    → (u : ℕ) × (from ≤ u) × (u ≤ from + length known) × IsPoint known 0 u
point_between known lo hi from range low high =
    let at = free (length known) (excluded known) from (few_excluded known) in
    let top = range.greatest.0 in
    let small : at.0 < 2 ^ 32 = omega (arith, at.2, high, top) in (
      at.0,
      at.1,
      at.2,
      ⊎_elim
          (λ (all : AllByRecursion (Asks 0 at.0) known). (small, All-from_recursion (Asks 0 at.0) known all))
          (λ (has : Contains known (NotBits 0 all_bits at.0)). absurd (not_excluded known 0 all_bits at.0 at.3 has))
          (all_between 0 lo hi at.0 known range.least.0 range.greatest.0 (omega (arith, low, at.1)) (omega (arith, at.2, high))
          (recursion_from_All (Asks 0 lo) known range.least.1) (recursion_from_All (Asks 0 hi) known range.greatest.1)),
    )
