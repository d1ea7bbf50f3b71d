-- What follows of a word, by what was gathered of it.
use Rattle.std.proofs.Common.{◌≡◌, ℕ, ◌≤◌, List, true, ◌∙◌, sym, ap, subst, arith, inl, inr, ◌↔◌, ◌⊎◌}
use Rattle.std.specs.Prelude.{Contains, bit_and, bit_xor}
use Rattle.std.specs.Int.Bits.{and_self}
use Rattle.std.proofs.lemmas.Bool.{cases_lt}
use Rattle.cert_state.specs.declared.literal.Lit.{Lit}
use Rattle.cert_state.specs.declared.literal.Lit.TheVariants.{NotBits}
use Rattle.cert_state.specs.declared.gathered.WordFacts.{WordFacts}
use Rattle.cert_state.specs.Points.{AreKnown, IsMissed, IsWithin, NoneBetween, datum_of, mask_of}
use Rattle.cert_state.specs.Entailment.{Differ, IsBounded, IsDeadAt, IsExcluded, IsOnePoint, IsTornAt}
use Rattle.cert_state.specs.inner.Gathered.{AreFactsOf}
use Rattle.cert_state.proofs.BitLaws.{agree_on_both}
use Rattle.cert_state.proofs.RangeLaws.{bounded_at, missed_at, one_point_at}

module _ (ls : List Lit) (w : ℕ) (f : WordFacts) (so : AreFactsOf ls w f) where
  pub bounded_by : (a b : ℕ) → IsBounded ls w a b ↔ ((f.low ≤ f.high) × (a ≤ f.low) × (f.high ≤ b))
  bounded_by a b = (
    λ h. elim (cases_lt f.high f.low) [
      | inl above ↦ absurd (so.none above h.lo h.range.least)
      | inr le ↦ (let at = (bounded_at ls w f.low f.high (so.range le) a b).0 h in (le, at.0, at.1))
    ],
    λ h. (bounded_at ls w f.low f.high (so.range h.0) a b).1 (h.1, h.2),
  )

  pub one_by : (m d : ℕ) → IsOnePoint ls w m d ↔ ((f.low ≡ f.high) × (bit_and f.low m ≡ d))
  one_by m d = (
    λ h. elim (cases_lt f.high f.low) [
      | inl above ↦ absurd (so.none above h.point h.range.least)
      | inr le ↦ (one_point_at ls w f.low f.high (so.range le) m d).0 h
    ],
    λ h. let same = h.0 in (one_point_at ls w f.low f.high (so.range (omega (arith, same))) m d).1 h,
  )

  pub missed_by : (m d : ℕ) → IsMissed ls w m d ↔ ((f.low ≤ f.high) × NoneBetween f.low f.high m d)
  missed_by m d = (
    λ h. elim (cases_lt f.high f.low) [
      | inl above ↦ absurd (so.none above h.lo h.range.least)
      | inr le ↦ (le, (missed_at ls w f.low f.high (so.range le) m d).0 h)
    ],
    λ h. (missed_at ls w f.low f.high (so.range h.0) m d).1 h.1,
  )

  pub known_by : (m d : ℕ) → AreKnown ls w m d ↔ (IsWithin m f.mask × (bit_and f.datum m ≡ d))
  known_by m d = (
    λ h. (subst (IsWithin m) (sym so.mask) h.within, subst (λ x. bit_and x m ≡ d) (sym so.datum) h.datum),
    λ h. record { within = subst (IsWithin m) so.mask h.0; datum = subst (λ x. bit_and x m ≡ d) so.datum h.1 },
  )

  pub differ_by : (m d : ℕ) → Differ (mask_of ls w) (datum_of ls w) m d ↔ Differ f.mask f.datum m d
  differ_by m d = (
    λ h. subst (λ x. Differ x f.datum m d) (sym so.mask) (subst (λ x. Differ (mask_of ls w) x m d) (sym so.datum) h),
    λ h. subst (λ x. Differ x (datum_of ls w) m d) so.mask (subst (λ x. Differ f.mask x m d) so.datum h),
  )

  -- where each Bits follows from the unions, no two of them differ
  pub not_torn : f.whole ≡ true → IsTornAt ls w → ⊥
  not_torn whole h =
      let one = so.whole whole h.mask h.datum h.one in
      let other = so.whole whole h.other_mask h.other_datum h.other in
      h.differ
      (ap (λ k. bit_and (bit_and h.mask h.other_mask) (bit_xor k h.other_datum)) (sym one.datum)
      ∙ ap (λ k. bit_and (bit_and h.mask h.other_mask) (bit_xor (bit_and (datum_of ls w) h.mask) k)) (sym other.datum)
      ∙ agree_on_both (datum_of ls w) h.mask h.other_mask)

  -- where no literal excludes bits, none excludes what the Bits say
  pub not_excluded : f.free ≡ true → (m d : ℕ) → IsExcluded ls w m d → ⊥
  not_excluded free m d h = so.free free h.mask h.datum h.stated

  pub missed_there : f.low ≤ f.high → IsMissed ls w (mask_of ls w) (datum_of ls w) ↔ NoneBetween f.low f.high f.mask f.datum
  missed_there le =
      let at = missed_by f.mask f.datum in (
        λ h. (at.0 (subst (λ m. IsMissed ls w m f.datum) (sym so.mask) (subst (IsMissed ls w (mask_of ls w)) (sym so.datum) h))).1,
        λ h. subst (λ m. IsMissed ls w m (datum_of ls w)) so.mask (subst (IsMissed ls w f.mask) so.datum (at.1 (le, h))),
      )

  pub excluded_there : IsExcluded ls w (mask_of ls w) (datum_of ls w) ↔ IsExcluded ls w f.mask f.datum
  excluded_there = (
    λ h. subst (λ m. IsExcluded ls w m f.datum) (sym so.mask) (subst (IsExcluded ls w (mask_of ls w)) (sym so.datum) h),
    λ h. subst (λ m. IsExcluded ls w m (datum_of ls w)) so.mask (subst (IsExcluded ls w f.mask) so.datum h),
  )

  -- what is left of a word that has points and no two Bits that differ
  pub dead_there : f.low ≤ f.high → f.whole ≡ true
      → IsDeadAt ls w ↔ (NoneBetween f.low f.high f.mask f.datum ⊎ IsExcluded ls w f.mask f.datum)
  dead_there le whole = (
    λ h. elim h [
      | inl none ↦ absurd (none f.low (so.range le).least)
      | inr h ↦
          elim h [
            | inl torn ↦ absurd (not_torn whole torn)
            | inr h ↦ elim h [ inl missed ↦ inl ((missed_there le).0 missed) | inr out ↦ inr (excluded_there.0 out) ]
          ]
    ],
    λ h. elim h [
      | inl missed ↦ inr (inr (inl ((missed_there le).1 missed)))
      | inr out ↦ inr (inr (inr (excluded_there.1 out)))
    ],
  )

-- a NotBits that is stated excludes its own datum, where no bit of that lies outside the mask
pub excludes_itself : (ls : List Lit) (w m d : ℕ) → Contains ls (NotBits w m d) → bit_and d m ≡ d → IsExcluded ls w m d
excludes_itself ls w m d has exact = record { mask = m; datum = d; stated = has; within = and_self m; same = exact }
