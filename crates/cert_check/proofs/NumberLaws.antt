-- Numbers outside of the range of the call's number.
use Rattle.std.proofs.Common.{◌≡◌, ℕ, ◌^◌, ◌<◌, ◌≤◌, List, sym, refl, ap, ◌∙◌, inl, inr, ◌⊎◌, arith}
use Rattle.std.specs.Prelude.{bit_and, bit_xor}
use Rattle.std.specs.Int.{bit_at}
use Rattle.std.proofs.lemmas.List.Elements.{All-contains}
use Rattle.std.proofs.lemmas.Nat.Bits.{bit_at_and, bit_at_xor, bit_at-lt, bit_at-zero, same_from_bits}
use Rattle.cert_state.specs.declared.literal.Lit.{Lit}
use Rattle.cert_state.specs.declared.literal.Lit.TheVariants.{Bits, NotBits}
use Rattle.cert_state.specs.Literals.{all_bits, index_of, Meets}
use Rattle.cert_state.specs.Points.{IsRange, IsWhole, datum_of, mask_of}
use Rattle.cert_state.specs.Entailment.{Entails}
use Rattle.cert_state.proofs.BitLaws.{and_all}
use Rattle.cert_check.specs.inner.Judged.{IsOtherNumber}

-- a datum that nowhere differs from a number has that number
same_datum : (m d u : ℕ) → u < 2 ^ 32 → bit_and all_bits m ≡ all_bits → bit_and (bit_and m all_bits) (bit_xor d u) ≡ 0 → bit_and d all_bits ≡ u
same_datum m d u small within none = same_from_bits _ _ (λ i.
    let own = ap (λ n. bit_at n i) (sym (and_all u small)) ∙ bit_at_and u all_bits i in
    let mask = sym (bit_at_and all_bits m i) ∙ ap (λ n. bit_at n i) within in
    let zero = sym (bit_at_and (bit_and m all_bits) (bit_xor d u) i) ∙ (ap (λ n. bit_at n i) none ∙ bit_at-zero i) in
    let parts = bit_at_and m all_bits i in
    let other = bit_at_xor d u i in
    rw (bit_at_and d all_bits i)
    (omega (arith, own, mask, zero, parts, other, bit_at-lt d i, bit_at-lt u i, bit_at-lt m i, bit_at-lt all_bits i)))

module _ (known : List Lit) (least greatest nr : ℕ) (range : IsRange known 0 least greatest)
    (outside : (nr < least) ⊎ (greatest < nr)) where
  -- no number of the range is it
  not_inside : (u : ℕ) → least ≤ u → u ≤ greatest → u ≡ nr → ⊥
  not_inside u from to is = elim outside [ inl below ↦ omega (arith, below, from, is) | inr above ↦ omega (arith, above, to, is) ]

  small : (u : ℕ) → u ≤ greatest → u < 2 ^ 32
  small u to = omega (arith, to, range.greatest.0)

  -- what is known excludes it
  excluded : Entails known (NotBits 0 all_bits nr)
  excluded = inr (inr (inr (record {
    lo = least;
    hi = greatest;
    range = range;
    missed = λ u from to is. not_inside u from to (sym (and_all u (small u to)) ∙ is);
  })))

  end : least ≤ greatest
  end = (range.between greatest range.greatest).0

  -- and does not say that it is this one, unless it excludes the least number of the range
  not_said : (Entails known (NotBits 0 all_bits least) → ⊥) → Entails known (Bits 0 all_bits nr) → ⊥
  not_said free (inl said) =
      let is = All-contains (λ l. index_of l ≡ 0 → IsWhole l → Meets l least) known (Bits 0 all_bits nr) range.least.1 said refl refl in
      not_inside least (omega arith) end (sym (and_all least range.least.0) ∙ is)
  not_said free (inr (inl by_bits)) =
      free (inr (inl (λ none.
      not_inside least (omega arith) end
      (sym (same_datum (mask_of known 0) (datum_of known 0) least range.least.0 by_bits.within none) ∙ by_bits.datum))))
  not_said free (inr (inr one)) =
      let at = range.between one.point one.range.least in
      not_inside one.point at.0 at.1 (sym (and_all one.point (small one.point at.1)) ∙ one.datum)

  pub is_other : (Entails known (NotBits 0 all_bits least) → ⊥) → IsOtherNumber known nr
  is_other free = (excluded, not_said free)
