-- Questions that are settled at both ends of an argument's range.
use Rattle.std.proofs.Common.{◌≡◌, ◌≢◌, ℕ, ◌+◌, ◌*◌, ◌^◌, Bool, true, false, List, sym, refl, ap, subst, ◌∙◌, inl, inr, ◌⊎◌, arith}
use Rattle.std.specs.Prelude.{IsTrue, MatchOption, None, Option, Some, ◌↔◌}
use Rattle.std.proofs.lemmas.Bool.{cases_Bool}
use Rattle.profile.specs.declared.conditions.Op.{Op}
use Rattle.profile.specs.declared.conditions.Op.TheVariants.{Ne, Eq, MaskedEq}
use Rattle.profile.specs.Operator.{Compares}
use Rattle.profile.specs.Said.{compares}
use Rattle.profile.proofs.SaidLaws.{Decides-compares}
use Rattle.cert_state.specs.declared.literal.Lit.{Lit}
use Rattle.cert_state.specs.Points.{IsRange, HasNoPoint}
use Rattle.cert_check.specs.Agree.{AtBothEnds, HasAbove, IsRangeAbove, LacksAbove}
use Rattle.cert_check.specs.inner.Judged.{AreEnds, IsOrder}

-- a word has one range
same_range : (known : List Lit) (w lo hi lo' hi' : ℕ) → IsRange known w lo hi → IsRange known w lo' hi' → (lo ≡ lo') × (hi ≡ hi')
same_range known w lo hi lo' hi' a b =
    let p = a.between lo' b.least in
    let q = b.between lo a.least in
    let s = a.between hi' b.greatest in
    let t = b.between hi a.greatest in
    (omega (arith, p, q), omega (arith, s, t))

-- so has a high half
same_above : (narrow : Bool) (known : List Lit) (j lo hi lo' hi' : ℕ) → IsRangeAbove narrow known j lo hi
    → IsRangeAbove narrow known j lo' hi' → (lo ≡ lo') × (hi ≡ hi')
same_above true known j lo hi lo' hi' a b = (a.0 ∙ sym b.0, a.1 ∙ sym b.1)
same_above false known j lo hi lo' hi' a b = same_range known (5 + 2 * j) lo hi lo' hi' a b

-- a comparison by order knows no datum
order_test : (op : Op) (value datum u : ℕ) (b : Bool) → IsOrder op → (IsTrue b ↔ Compares op value datum u) → compares op value 0 u ≡ b
order_test op value datum u b order h = by_answer b refl where
  no_datum : (op : Op) → IsOrder op → compares op value 0 u ≡ compares op value datum u
  no_datum Ne o = absurd o
  no_datum Eq o = absurd o
  no_datum MaskedEq o = absurd o
  no_datum _ o = refl

  by_answer : (c : Bool) → b ≡ c → compares op value 0 u ≡ b
  by_answer true is = no_datum op order ∙ ((Decides-compares op value datum u).1 (h.0 is) ∙ sym is)
  by_answer false is =
      no_datum op order ∙ (elim (cases_Bool (compares op value datum u)) [
        | inl holds ↦ absurd (let t = h.1 ((Decides-compares op value datum u).0 holds) in let e : false ≡ true = sym is ∙ t in cc)
        | inr fails ↦ fails ∙ sym is
      ])

-- an answer at both ends is the one at these
ends_answer : (narrow : Bool) (known : List Lit) (j : ℕ) (op : Op) (value low high : ℕ) (answer : Bool)
    → AreEnds narrow known j low high → AtBothEnds narrow known j op value answer
    → (compares op value 0 low ≡ answer) × (compares op value 0 high ≡ answer)
ends_answer narrow known j op value low high answer e h =
    let a = same_range known (4 + 2 * j) e.least e.greatest h.low h.high e.range h.range in
    let b = same_above narrow known j e.least_above e.greatest_above h.low_above h.high_above e.range_above h.range_above in
    let low_is : low ≡ h.low + 2 ^ 32 * h.low_above = e.low_is
    ∙ (ap (λ n. n + 2 ^ 32 * e.least_above) a.0 ∙ ap (λ n. h.low + 2 ^ 32 * n) b.0) in
    let high_is : high ≡ h.high + 2 ^ 32 * h.high_above = e.high_is
    ∙ (ap (λ n. n + 2 ^ 32 * e.greatest_above) a.1 ∙ ap (λ n. h.high + 2 ^ 32 * n) b.1) in
    (ap (λ n. compares op value 0 n) low_is ∙ h.at_low, ap (λ n. compares op value 0 n) high_is ∙ h.at_high)

-- and these give it
pub both_ends : (narrow : Bool) (known : List Lit) (j : ℕ) (op : Op) (value datum low high : ℕ) (answer : Bool)
    → IsOrder op → AreEnds narrow known j low high
    → (IsTrue answer ↔ Compares op value datum low) → (IsTrue answer ↔ Compares op value datum high)
    → AtBothEnds narrow known j op value answer
both_ends narrow known j op value datum low high answer order e at_low at_high = record {
  low = e.least;
  high = e.greatest;
  low_above = e.least_above;
  high_above = e.greatest_above;
  range = e.range;
  range_above = e.range_above;
  at_low = ap (λ n. compares op value 0 n) (sym e.low_is) ∙ order_test op value datum low answer order at_low;
  at_high = ap (λ n. compares op value 0 n) (sym e.high_is) ∙ order_test op value datum high answer order at_high;
}

-- no other answer stands at both ends
pub not_both_ends : (narrow : Bool) (known : List Lit) (j : ℕ) (op : Op) (value datum low high : ℕ) (b answer : Bool)
    → IsOrder op → AreEnds narrow known j low high
    → (IsTrue b ↔ Compares op value datum low) ⊎ (IsTrue b ↔ Compares op value datum high)
    → b ≢ answer → AtBothEnds narrow known j op value answer → ⊥
not_both_ends narrow known j op value datum low high b answer order e (inl at) differ h =
    differ (sym (order_test op value datum low b order at) ∙ (ends_answer narrow known j op value low high answer e h).0)
not_both_ends narrow known j op value datum low high b answer order e (inr at) differ h =
    differ (sym (order_test op value datum high b order at) ∙ (ends_answer narrow known j op value low high answer e h).1)

-- where a half has no point there are no ends
pub no_ends : (narrow : Bool) (known : List Lit) (j : ℕ) (op : Op) (value : ℕ) (answer : Bool)
    → HasNoPoint known (4 + 2 * j) ⊎ ((narrow ≡ false) × HasNoPoint known (5 + 2 * j))
    → AtBothEnds narrow known j op value answer → ⊥
no_ends narrow known j op value answer (inl none) h = none h.low h.range.least
no_ends narrow known j op value answer (inr (wide, none)) h =
    none h.low_above (subst (λ b. IsRangeAbove b known j h.low_above h.high_above) wide h.range_above).least

-- what is asked of a high half goes by its numbers
pub same_has_above : (narrow : Bool) (known : List Lit) (j m d m' d' : ℕ) → m ≡ m' → d ≡ d'
    → HasAbove narrow known j m d ↔ HasAbove narrow known j m' d'
same_has_above narrow known j m d m' d' p q = (
  λ h. subst (λ n. HasAbove narrow known j m' n) q (subst (λ n. HasAbove narrow known j n d) p h),
  λ h. subst (λ n. HasAbove narrow known j m n) (sym q) (subst (λ n. HasAbove narrow known j n d') (sym p) h),
)

pub same_lacks_above : (narrow : Bool) (known : List Lit) (j m d m' d' : ℕ) → m ≡ m' → d ≡ d'
    → LacksAbove narrow known j m d ↔ LacksAbove narrow known j m' d'
same_lacks_above narrow known j m d m' d' p q = (
  λ h. subst (λ n. LacksAbove narrow known j m' n) q (subst (λ n. LacksAbove narrow known j n d) p h),
  λ h. subst (λ n. LacksAbove narrow known j m n) (sym q) (subst (λ n. LacksAbove narrow known j n d') (sym p) h),
)

-- the ends of the word are those of the high half, where that is wide
pub wide_ends : (narrow : Bool) (known : List Lit) (j w : ℕ) (ends : Option (ℕ × ℕ)) → narrow ≡ false → w ≡ 5 + 2 * j
    → MatchOption ends (HasNoPoint known w) (λ p. IsRange known w p.0 p.1)
    → MatchOption ends ((narrow ≡ false) × HasNoPoint known (5 + 2 * j)) (λ p. IsRangeAbove narrow known j p.0 p.1)
wide_ends narrow known j w None wide is none = (wide, subst (HasNoPoint known) is none)
wide_ends narrow known j w (Some p) wide is range =
    subst (λ b. IsRangeAbove b known j p.0 p.1) (sym wide) (subst (λ v. IsRange known v p.0 p.1) is range)
