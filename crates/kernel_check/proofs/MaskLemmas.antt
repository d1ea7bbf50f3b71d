-- A table of masks of sixteen bits.
use Rattle.std.proofs.Common.{◌≡◌, ◌≢◌, ℕ, ◌-◌, ◌*◌, ◌%◌, ◌^◌, ◌<◌, ◌≤◌, ◌⊎◌, ◌↔◌, inl, inr}
use Rattle.std.proofs.Common.{List, length, replicate, slice_index, slice_set, bit_and, bit_or, ap, sym, subst, ◌∙◌, arith}
use Rattle.std.specs.Int.{bit_at, w16}
use Rattle.std.proofs.lemmas.Bool.{cases_eq, cases_lt}
use Rattle.std.proofs.lemmas.List.{get_or-set_same, get_or-set_other, get_or-replicate, get_or_past, length-replicate}
use Rattle.std.proofs.lemmas.Nat.Bits.{bit_at_or, bit_at-lt, bit_at-zero, bit_at_ones, bit_at_clear_same, bit_at_clear_other}
use Rattle.kernel_check.specs.inner.Masks.{IsMarked}

-- an `|` has the bits of both
either : (a b w : ℕ) → (bit_at (bit_or a b) w ≡ 1) ↔ (bit_at a w ≡ 1) ⊎ (bit_at b w ≡ 1)
either a b w = (
  λ h. elim (cases_eq (bit_at a w) 1) [ inl e ↦ inl e | inr ne ↦ inr (omega (arith, bit_at_or a b w, bit_at-lt a w, bit_at-lt b w)) ],
  λ h. elim h [
    | inl e ↦ omega (arith, bit_at_or a b w, bit_at-lt b w)
    | inr e ↦ omega (arith, bit_at_or a b w, bit_at-lt a w)
  ],
)

-- masks with the bits of one more at one position
abbrev pub with_added : List ℕ → ℕ → ℕ → List ℕ
with_added xs place mask = slice_set xs place (bit_or (slice_index xs place) mask)

-- a word is marked there, or was, or is one of the bits
abbrev pub IsAdded : List ℕ → ℕ → ℕ → ℕ → ℕ → Type 0
IsAdded xs place mask j w = IsMarked (with_added xs place mask) j w ↔ IsMarked xs j w ⊎ ((j ≡ place) × (bit_at mask w ≡ 1))

-- the bits of a mask are added at one position
pub added : (xs : List ℕ) (place mask j w : ℕ) → place < length xs → IsAdded xs place mask j w
added xs place mask j w within = elim (cases_eq j place) [ inl e ↦ here e | inr ne ↦ there ne ] where
  both : (bit_at (bit_or (slice_index xs place) mask) w ≡ 1) ↔ (bit_at (slice_index xs place) w ≡ 1) ⊎ (bit_at mask w ≡ 1)
  both = either (slice_index xs place) mask w

  here : j ≡ place → IsAdded xs place mask j w
  here e =
      let at : slice_index (with_added xs place mask) j ≡ bit_or (slice_index xs place) mask =
      ap (slice_index (with_added xs place mask)) e ∙ get_or-set_same xs place _ 0 within in
      let old : slice_index xs j ≡ slice_index xs place = ap (slice_index xs) e in (
        λ h. elim (both.0 (ap (λ m. bit_at m w) (sym at) ∙ h)) [
          | inl f ↦ inl (ap (λ m. bit_at m w) old ∙ f)
          | inr f ↦ inr (e, f)
        ],
        λ h. ap (λ m. bit_at m w) at ∙ elim h [
          | inl f ↦ both.1 (inl (ap (λ m. bit_at m w) (sym old) ∙ f))
          | inr f ↦ both.1 (inr f.1)
        ],
      )

  there : j ≢ place → IsAdded xs place mask j w
  there ne =
      let at : slice_index (with_added xs place mask) j ≡ slice_index xs j = get_or-set_other xs place j _ 0 ne in (
        λ h. inl (ap (λ m. bit_at m w) (sym at) ∙ h),
        λ h. ap (λ m. bit_at m w) at ∙ elim h [ inl f ↦ f | inr f ↦ absurd (ne f.0) ],
      )

-- a mask without one bit
abbrev pub without : ℕ → ℕ → ℕ
without mask k = bit_and mask (65535 - 1 * 2 ^ k % 65536)

-- a bit of a mask is cleared, if this holds
pub cleared : (mask k w : ℕ) (Holds : Type 0) → Holds → k < 16 → w < 16
    → (bit_at (without mask k) w ≡ 1) ↔ (bit_at mask w ≡ 1) × (Holds × (k ≡ w) → ⊥)
cleared mask k w Holds holds low within = elim (cases_eq w k) [ inl e ↦ same e | inr ne ↦ other ne ] where
  same : w ≡ k → (bit_at (without mask k) w ≡ 1) ↔ (bit_at mask w ≡ 1) × (Holds × (k ≡ w) → ⊥)
  same e =
      let gone : bit_at (without mask k) w ≡ 0 = ap (bit_at (without mask k)) e ∙ bit_at_clear_same w16 mask k low in
      (λ h. absurd (omega arith), λ h. absurd (h.1 (holds, sym e)))

  other : w ≢ k → (bit_at (without mask k) w ≡ 1) ↔ (bit_at mask w ≡ 1) × (Holds × (k ≡ w) → ⊥)
  other ne =
      let stays : bit_at (without mask k) w ≡ bit_at mask w = bit_at_clear_other w16 mask k low w within ne in
      (λ h. (sym stays ∙ h, λ both. ne (sym both.1)), λ h. stays ∙ h.0)

zeros : (n j : ℕ) → slice_index (replicate n 0) j ≡ 0
zeros n j = elim (cases_lt j n) [
  | inl lt ↦ get_or-replicate n j 0 0 lt
  | inr le ↦ get_or_past (replicate n 0) j 0 (subst (λ m. m ≤ j) (sym (length-replicate n 0)) le)
]

-- where every bit is added at position 0 of zeros, that position alone has bits
pub first_marked : (n : ℕ) (new : List ℕ)
    → ((j w : ℕ) → IsMarked new j w ↔ IsMarked (replicate n 0) j w ⊎ ((j ≡ 0) × (bit_at 65535 w ≡ 1)))
    → (j w : ℕ) → w < 16 → IsMarked new j w ↔ (j ≡ 0)
first_marked n new exact j w within =
    let none : bit_at (slice_index (replicate n 0) j) w ≡ 0 = ap (λ m. bit_at m w) (zeros n j) ∙ bit_at-zero w in (
      λ h. elim ((exact j w).0 h) [ inl old ↦ absurd (omega arith) | inr at ↦ at.0 ],
      λ e. (exact j w).1 (inr (e, bit_at_ones 16 w within)),
    )
