-- Numbers near another that are excluded, as bits.
use Rattle.std.proofs.Common.{◌≡◌, ℕ, ◌+◌, ◌-◌, ◌*◌, ◌%◌, ◌^◌, ◌<◌, Bool, true, false, List, ◌∷◌, sym, ap, subst, ◌∙◌, arith, inl, inr, ◌⊎◌, ◌↔◌}
use Rattle.std.specs.Prelude.{bit_or}
use Rattle.std.specs.Int.{bit_at, trailing_ones, w64}
use Rattle.std.specs.Int.Count.{trailing_of_zero}
use Rattle.std.proofs.lemmas.Bool.{cases_eq, cases_lt}
use Rattle.std.proofs.lemmas.Nat.Bits.{bit_at_ones, bit_at_set_same, bit_at_set_other, bit_at-trailing_ones}
use Rattle.cert_state.specs.declared.literal.Lit.{Lit}
use Rattle.cert_state.specs.declared.literal.Lit.TheVariants.{NotBits}
use Rattle.cert_state.specs.Literals.{all_bits}
use Rattle.cert_state.proofs.ListLaws.{contains_split, contains_here, contains_later}
use Rattle.cert_state.specs.inner.Window.{IsAt, ExcludedBy, ExcludesAt}

-- a place and a number give each other
pub same_place : (up : Bool) (from k j d : ℕ) → IsAt up from k d → IsAt up from j d → k ≡ j
same_place true from k j d a b = omega arith
same_place false from k j d a b = omega arith

pub same_number : (up : Bool) (from k d e : ℕ) → IsAt up from k d → IsAt up from k e → d ≡ e
same_number true from k d e a b = omega arith
same_number false from k d e a b = omega arith

module _ (l : Lit) (before rest : List Lit) (e : before ≡ l ∷ rest) where
  module _ (w : ℕ) (up : Bool) (from : ℕ) where
    split : (k : ℕ) → ExcludesAt before w up from k → ExcludedBy l w up from k ⊎ ExcludesAt rest w up from k
    split k (d, at, has) =
        elim (contains_split l before rest e (NotBits w all_bits d) has) [ inl is ↦ inl (d, at, is) | inr later ↦ inr (d, at, later) ]

    here : (k : ℕ) → ExcludedBy l w up from k → ExcludesAt before w up from k
    here k (d, at, is) = (d, at, contains_here l before rest e (NotBits w all_bits d) is)

    later : (k : ℕ) → ExcludesAt rest w up from k → ExcludesAt before w up from k
    later k (d, at, has) = (d, at, contains_later l before rest e (NotBits w all_bits d) has)

    -- a literal that excludes nothing near leaves what is seen as it is
    pub not_seen : (k seen : ℕ) → (ExcludedBy l w up from k → ⊥)
        → ((bit_at seen k ≡ 1) ⊎ ExcludesAt before w up from k) ↔ ((bit_at seen k ≡ 1) ⊎ ExcludesAt rest w up from k)
    not_seen k seen never = (
      λ h. elim h [ inl b ↦ inl b | inr has ↦ elim (split k has) [ inl by ↦ absurd (never by) | inr r ↦ inr r ] ],
      λ h. elim h [ inl b ↦ inl b | inr r ↦ inr (later k r) ],
    )

    -- one that excludes the number at j sets its bit
    pub seen_one : (k j seen : ℕ) → j < 64 → ExcludedBy l w up from j
        → ((bit_at seen k ≡ 1) ⊎ ExcludesAt before w up from k)
        ↔ ((bit_at (bit_or seen (1 * 2 ^ j % 2 ^ 64)) k ≡ 1) ⊎ ExcludesAt rest w up from k)
    seen_one k j seen within by = elim (cases_eq k j) [
      | inl same ↦ (
        λ h. inl (subst (λ i. bit_at (bit_or seen (1 * 2 ^ j % 2 ^ 64)) i ≡ 1) (sym same) (bit_at_set_same w64 seen j within)),
        λ h. inr (subst (ExcludesAt before w up from) (sym same) (here j by)),
      )
      | inr apart ↦
          (let old : bit_at (bit_or seen (1 * 2 ^ j % 2 ^ 64)) k ≡ bit_at seen k = bit_at_set_other w64 seen j within k apart in
          let never : ExcludedBy l w up from k → ⊥ = λ other. apart (one_place k other) in
          let unseen = not_seen k seen never in (
            λ h. elim (unseen.0 h) [ inl b ↦ inl (old ∙ b) | inr r ↦ inr r ],
            λ h. unseen.1 (elim h [ inl b ↦ inl (sym old ∙ b) | inr r ↦ inr r ]),
          ))
    ]
      where
        one_place : (k : ℕ) → ExcludedBy l w up from k → k ≡ j
        one_place k other =
            let same : other.0 ≡ by.0 = (let n : NotBits w all_bits other.0 ≡ NotBits w all_bits by.0 = sym other.2 ∙ by.2 in cc) in
            same_place up from k j by.0 (subst (IsAt up from k) same other.1) by.1

-- the ones at the low end of a number of 64 bits
pub low_ones : (n run : ℕ) → n < 2 ^ 64 → run ≡ trailing_ones w64 n
    → ((k : ℕ) → k < run → k < 64 → bit_at n k ≡ 1) × (run < 64 → bit_at n run ≡ 0)
low_ones n run fits is = elim (cases_lt (n + 1) (2 ^ 64)) [
  | inl below ↦
      (let ones = bit_at-trailing_ones w64 n below in (λ k lt small. ones.2 k (omega arith), λ lt. ap (bit_at n) is ∙ ones.1))
  | inr all ↦
      (let same : n ≡ 2 ^ 64 - 1 = omega arith in (
        λ k lt small. ap (λ m. bit_at m k) same ∙ bit_at_ones 64 k small,
        λ lt. absurd (let full : run ≡ 64 = is ∙ ap (trailing_ones w64) same ∙ trailing_of_zero 64 in omega arith),
      ))
]
