-- Which numbers are points: those within the bounds that are not excluded.
use Rattle.std.proofs.Common.{◌≡◌, ℕ, suc, ◌^◌, ◌<◌, ◌≤◌, min, max, cond, List, [], ◌∷◌, sym, refl, ap, subst, ◌∙◌, arith, ⊎_elim}
use Rattle.std.specs.Prelude.{Contains, bit_and}
use Rattle.std.specs.List.{AllByRecursion}
use Rattle.std.proofs.lemmas.List.Elements.{All-from_recursion, recursion_from_All, All-contains}
use Rattle.std.proofs.lemmas.Bool.{cases_eq, eq-eqb, ne_eqb}
use Rattle.cert_state.specs.declared.literal.Lit.{Lit}
use Rattle.cert_state.specs.declared.literal.Lit.TheVariants.{In, Bits, NotBits}
use Rattle.cert_state.specs.declared.summary.Summary.{Summary}
use Rattle.cert_state.specs.Literals.{all_bits, index_of, Meets}
use Rattle.cert_state.specs.Points.{HasNoPoint, IsPoint, IsRange, IsWhole}
use Rattle.cert_state.specs.inner.Summary.{added, added_bits, summary_of, unknown}
use Rattle.cert_state.specs.inner.Window.{Excludes}
use Rattle.cert_state.proofs.BitLaws.{and_all}

module _ (w u : ℕ) (small : u < 2 ^ 32) where
  -- what a literal asks of a point of w
  abbrev Asks : Lit → Type 0
  Asks l = index_of l ≡ w → IsWhole l → Meets l u

  -- u is within the bounds
  abbrev pub IsBetween : Summary → Type 0
  IsBetween s = (s.low ≤ u) × (u ≤ s.high)

  between_added : (l : Lit) (s : Summary) → Asks l → IsBetween s → IsBetween (added w l s)
  between_added (In v lo hi) s asks h = ⊎_elim
      (λ (e : v ≡ w). rw (eq-eqb v w e) (let m = asks e tt in (omega (arith, m, h), omega (arith, m, h))))
      (λ (ne : v ≡ w → ⊥). rw (ne_eqb v w ne) h)
      (cases_eq v w)
  between_added (Bits v m d) s asks h = ⊎_elim
      (λ (e : v ≡ w). rw (eq-eqb v w e) (⊎_elim
      (λ (whole : m ≡ all_bits).
      let is : u ≡ d = sym (and_all u small) ∙ ap (λ x. bit_and u x) (sym whole) ∙ asks e whole in
      rw (eq-eqb m all_bits whole) (omega (arith, h), omega (arith, h)))
      (λ (part : m ≡ all_bits → ⊥). rw (ne_eqb m all_bits part) h)
      (cases_eq m all_bits)))
      (λ (ne : v ≡ w → ⊥). rw (ne_eqb v w ne) h)
      (cases_eq v w)
  between_added (NotBits v m d) s asks h = h

  -- and the other way, where the literal does not exclude u
  asks_added : (l : Lit) (s : Summary) → (l ≡ NotBits w all_bits u → ⊥) → IsBetween (added w l s) → IsBetween s × Asks l
  asks_added (In v lo hi) s free h = ⊎_elim
      (λ (e : v ≡ w).
      let k : (max s.low lo ≤ u) × (u ≤ min s.high hi) =
      subst (λ b. IsBetween (cond b (record s { low = max s.low lo; high = min s.high hi }) s)) (eq-eqb v w e) h in
      ((omega (arith, k), omega (arith, k)), λ at whole. (omega (arith, k), omega (arith, k))))
      (λ (ne : v ≡ w → ⊥). (
        subst (λ b. IsBetween (cond b (record s { low = max s.low lo; high = min s.high hi }) s)) (ne_eqb v w ne) h,
        λ at whole. absurd (ne at),
      ))
      (cases_eq v w)
  asks_added (Bits v m d) s free h = ⊎_elim
      (λ (e : v ≡ w).
      let k : IsBetween (added_bits m d s) = subst (λ b. IsBetween (cond b (added_bits m d s) s)) (eq-eqb v w e) h in
      ⊎_elim
      (λ (whole : m ≡ all_bits).
      let low : max s.low d ≤ u = subst (λ b. cond b (max s.low d) s.low ≤ u) (eq-eqb m all_bits whole) k.0 in
      let high : u ≤ min s.high d = subst (λ b. u ≤ cond b (min s.high d) s.high) (eq-eqb m all_bits whole) k.1 in
      let same : u ≡ d = omega arith in
      ((omega arith, omega arith), λ at narrow. ap (λ x. bit_and u x) whole ∙ and_all u small ∙ same))
      (λ (part : m ≡ all_bits → ⊥). (
        (
          subst (λ b. cond b (max s.low d) s.low ≤ u) (ne_eqb m all_bits part) k.0,
          subst (λ b. u ≤ cond b (min s.high d) s.high) (ne_eqb m all_bits part) k.1,
        ),
        λ at whole. absurd (part whole),
      ))
      (cases_eq m all_bits))
      (λ (ne : v ≡ w → ⊥). (subst (λ b. IsBetween (cond b (added_bits m d s) s)) (ne_eqb v w ne) h, λ at whole. absurd (ne at)))
      (cases_eq v w)
  asks_added (NotBits v m d) s free h = (
    h,
    λ at whole is.
        free (ap (λ x. NotBits x m d) at ∙ ap (λ x. NotBits w x d) whole
        ∙ ap (λ x. NotBits w all_bits x) (sym is ∙ ap (λ x. bit_and u x) whole ∙ and_all u small)),
  )

  between_all : (ls : List Lit) (s : Summary) → AllByRecursion Asks ls → IsBetween s → IsBetween (summary_of ls w s)
  between_all [] s asks h = h
  between_all (l ∷ ls) s asks h = between_all ls (added w l s) asks.1 (between_added l s asks.0 h)

  all_ask : (ls : List Lit) (s : Summary) → (Excludes ls w u → ⊥) → IsBetween (summary_of ls w s) → IsBetween s × AllByRecursion Asks ls
  all_ask [] s free h = (h, tt)
  all_ask (l ∷ ls) s free h =
      let later = all_ask ls (added w l s) (λ has. free (suc has.0, omega (arith, has.1), has.2)) h in
      let here = asks_added l s (λ e. free (0, omega arith, e)) later.0 in
      (here.0, (here.1, later.1))

  -- what is within the bounds and not excluded is a point
  pub point_from : (ls : List Lit) → IsBetween (summary_of ls w unknown) → (Excludes ls w u → ⊥) → IsPoint ls w u
  point_from ls h free = (small, All-from_recursion Asks ls (all_ask ls unknown free h).1)

pub point_between : (w u : ℕ) (ls : List Lit) (point : IsPoint ls w u) → IsBetween w u point.0 (summary_of ls w unknown)
point_between w u ls point =
    let small = point.0 in
    between_all w u point.0 ls unknown (recursion_from_All (Asks w u point.0) ls point.1) (omega arith, omega arith)

-- a point is not excluded
pub point_free : (w u : ℕ) (ls : List Lit) → IsPoint ls w u → Excludes ls w u → ⊥
point_free w u ls point has = All-contains (Asks w u point.0) ls (NotBits w all_bits u) point.1 has refl refl (and_all u point.0)

-- the bounds that were gathered are those of each point
pub between : (ls : List Lit) (w : ℕ) (s : Summary) → s ≡ summary_of ls w unknown → (u : ℕ) → IsPoint ls w u → (s.low ≤ u) × (u ≤ s.high)
between ls w s same u point = subst (λ (t : Summary). (t.low ≤ u) × (u ≤ t.high)) (sym same) (point_between w u ls point)

-- what is within them and not excluded is a point
pub a_point : (ls : List Lit) (w : ℕ) (s : Summary) → s ≡ summary_of ls w unknown → s.high < 2 ^ 32 → (u : ℕ) → s.low ≤ u → u ≤ s.high
    → (Excludes ls w u → ⊥) → IsPoint ls w u
a_point ls w s same small u from to free =
    point_from w u (omega arith) ls (subst (λ (t : Summary). (t.low ≤ u) × (u ≤ t.high)) same (from, to)) free

-- a literal more makes the upper bound no greater
each_high : (w : ℕ) (l : Lit) (s : Summary) → (added w l s).high ≤ s.high
each_high w (In v lo hi) s = ⊎_elim
    (λ (e : v ≡ w). rw (eq-eqb v w e) (omega arith))
    (λ (ne : v ≡ w → ⊥). rw (ne_eqb v w ne) (omega arith))
    (cases_eq v w)
each_high w (NotBits v m d) s = omega arith
each_high w (Bits v m d) s = ⊎_elim
    (λ (e : v ≡ w). rw (eq-eqb v w e) (⊎_elim
    (λ (f : m ≡ all_bits). rw (eq-eqb m all_bits f) (omega arith))
    (λ (ne : m ≡ all_bits → ⊥). rw (ne_eqb m all_bits ne) (omega arith))
    (cases_eq m all_bits)))
    (λ (ne : v ≡ w → ⊥). rw (ne_eqb v w ne) (omega arith))
    (cases_eq v w)

high_le : (ls : List Lit) (w : ℕ) (s : Summary) → (summary_of ls w s).high ≤ s.high
high_le [] w s = omega arith
high_le (l ∷ ls) w s = omega (arith, high_le ls w (added w l s), each_high w l s)

-- where no number is excluded, these bounds are the range, or there is no point
pub range_free : (ls : List Lit) (w : ℕ) (s : Summary) → s ≡ summary_of ls w unknown
    → ((m d : ℕ) → Contains ls (NotBits w m d) → ⊥) → s.low ≤ s.high → IsRange ls w s.low s.high
range_free ls w s same free le =
    let bound = high_le ls w unknown in
    let small : s.high < 2 ^ 32 = omega (arith, bound, ap (λ (t : Summary). t.high) same) in
    record {
      least = a_point ls w s same small s.low (omega arith) le (free all_bits s.low);
      greatest = a_point ls w s same small s.high le (omega arith) (free all_bits s.high);
      between = between ls w s same;
    }

pub none_free : (ls : List Lit) (w : ℕ) (s : Summary) → s ≡ summary_of ls w unknown → s.high < s.low → HasNoPoint ls w
none_free ls w s same above u point = let within = between ls w s same u point in absurd (omega (arith, above, within))
