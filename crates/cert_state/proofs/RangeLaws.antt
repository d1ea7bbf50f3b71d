-- What is said of the range of a word, where the range is known; and whether a literal of a list excludes a datum.
use Rattle.std.proofs.Common.{◌≡◌, ℕ, ◌≤◌, List, ◌∷◌, sym, refl, ap, subst, ◌∙◌, arith, inl, inr, ◌↔◌}
use Rattle.std.specs.Prelude.{bit_and}
use Rattle.cert_state.specs.declared.literal.Lit.{Lit}
use Rattle.cert_state.specs.declared.literal.Lit.TheVariants.{In, Bits, NotBits}
use Rattle.cert_state.specs.Points.{IsMissed, IsRange, NoneBetween}
use Rattle.cert_state.specs.Entailment.{IsExcluded, IsBounded, IsOnePoint}
use Rattle.cert_state.specs.inner.Exclusion.{IsSuch}
use Rattle.cert_state.proofs.ListLaws.{contains_split, contains_here, contains_later}

module _ (ls : List Lit) (w lo hi : ℕ) (range : IsRange ls w lo hi) where
  -- a word has one range
  same : (low high : ℕ) → IsRange ls w low high → (lo ≡ low) × (hi ≡ high)
  same low high other =
      let p = range.between low other.least in
      let q = other.between lo range.least in
      let r = range.between high other.greatest in
      let s = other.between hi range.greatest in
      (omega (arith, p, q), omega (arith, r, s))

  pub missed_at : (m d : ℕ) → IsMissed ls w m d ↔ NoneBetween lo hi m d
  missed_at m d = (
    λ h u from to. let s = same h.lo h.hi h.range in h.missed u (omega (arith, s, from)) (omega (arith, s, to)),
    λ none. record { lo = lo; hi = hi; range = range; missed = none },
  )

  pub bounded_at : (a b : ℕ) → IsBounded ls w a b ↔ ((a ≤ lo) × (hi ≤ b))
  bounded_at a b = (
    λ h. let s = same h.lo h.hi h.range in let from = h.from in let to = h.to in (omega (arith, s, from), omega (arith, s, to)),
    λ h. record { lo = lo; hi = hi; range = range; from = h.0; to = h.1 },
  )

  pub one_point_at : (m d : ℕ) → IsOnePoint ls w m d ↔ ((lo ≡ hi) × (bit_and lo m ≡ d))
  one_point_at m d = (
    λ h. let s = same h.point h.point h.range in (omega (arith, s), ap (λ x. bit_and x m) s.0 ∙ h.datum),
    λ h. record { point = lo; range = subst (IsRange ls w lo) (sym h.0) range; datum = h.1 },
  )

-- a literal that excludes it is the first one or a later one

module _ (l : Lit) (before rest : List Lit) (e : before ≡ l ∷ rest) (w m d : ℕ) where
  excluded_now : (k : Lit) → l ≡ k → IsSuch w m d k → IsExcluded before w m d
  excluded_now (In v lo hi) is h = absurd h
  excluded_now (Bits v n k) is h = absurd h
  excluded_now (NotBits v n k) is h = record {
    mask = n;
    datum = k;
    stated = contains_here l before rest e (NotBits w n k) (is ∙ ap (λ x. NotBits x n k) h.0);
    within = h.1;
    same = h.2;
  }

  pub excluded_here : IsSuch w m d l → IsExcluded before w m d
  excluded_here h = excluded_now l refl h

  pub excluded_later : (IsSuch w m d l → ⊥) → IsExcluded before w m d ↔ IsExcluded rest w m d
  excluded_later never = (
    λ h. record {
      mask = h.mask;
      datum = h.datum;
      within = h.within;
      same = h.same;
      stated = elim (contains_split l before rest e (NotBits w h.mask h.datum) h.stated) [
        | inl is ↦ absurd (never (subst (IsSuch w m d) (sym is) (refl, h.within, h.same)))
        | inr later ↦ later
      ];
    },
    λ h. record {
      mask = h.mask;
      datum = h.datum;
      within = h.within;
      same = h.same;
      stated = contains_later l before rest e (NotBits w h.mask h.datum) h.stated;
    },
  )
