-- Where each word of a record is stated and what is known is not dead, it is true of the record of those words.
use Rattle.std.proofs.Common.{◌≡◌, ◌≢◌, ℕ, zero, suc, ◌+◌, ◌/◌, ◌%◌, ◌^◌, ◌<◌, ◌≤◌, List, [], ◌∷◌, refl, ap, sym}
use Rattle.std.proofs.Common.{◌∙◌, arith, subst, inl, inr, ⊎_elim}
use Rattle.std.specs.Prelude.{All, Contains, bit_and, bit_xor}
use Rattle.std.specs.Int.{bit_at}
use Rattle.std.specs.Int.Bits.{and_mask}
use Rattle.std.proofs.lemmas.Bool.{cases_eq, cases_lt}
use Rattle.std.proofs.lemmas.List.Elements.{All-contains, All-contains_itself, All-weaker}
use Rattle.std.proofs.lemmas.Nat.Bits.{bit_at_and, bit_at_xor, bit_at-lt, bit_at-zero, same_from_bits}
use Rattle.call_record.specs.Words.{IsRecord, word, words_from}
use Rattle.cert_state.specs.declared.literal.Lit.{Lit}
use Rattle.cert_state.specs.declared.literal.Lit.TheVariants.{In, Bits, NotBits}
use Rattle.cert_state.specs.Literals.{Holds, IsLit, Meets, all_bits, index_of}
use Rattle.cert_state.specs.Points.{IsPoint, IsWhole, IsWithin, datum_of, mask_of}
use Rattle.cert_state.specs.Entailment.{IsDead, IsDeadAt, IsExcluded, IsTornAt}
use Rattle.cert_state.proofs.BitLaws.{and_all}
use Rattle.cert_state.proofs.SummaryLaws.{bit_from, bit_found}
use Rattle.cert_check.specs.Settled.{AreStated}

-- the halves of a number of 64 bits are stated, the low one first
abbrev pub AreHalves : List Lit → ℕ → ℕ → Type 0
AreHalves known w n = Contains known (Bits w all_bits (n % 2 ^ 32)) × Contains known (Bits (w + 1) all_bits (n / 2 ^ 32))

-- a literal of a word whose number is stated
module _ (known : List Lit) (lits : All IsLit known) (w u : ℕ) (stated : Contains known (Bits w all_bits u)) (alive : IsDeadAt known w → ⊥)
  where
    -- the number has 32 bits
    u_is : bit_and u all_bits ≡ u
    u_is = (All-contains IsLit known (Bits w all_bits u) lits stated).2

    pub u_small : u < 2 ^ 32
    u_small = omega (arith, and_mask u 32, u_is)

    -- what another Bits says of a bit, it says of this number
    agree : (m d : ℕ) → Contains known (Bits w m d) → bit_and (bit_and all_bits m) (bit_xor u d) ≡ 0
    agree m d has = ⊎_elim
        (λ (same : bit_and (bit_and all_bits m) (bit_xor u d) ≡ 0). same)
        (λ (differ : bit_and (bit_and all_bits m) (bit_xor u d) ≡ 0 → ⊥).
        let torn : IsTornAt known w =
        record { mask = all_bits; datum = u; other_mask = m; other_datum = d; one = stated; other = has; differ = differ } in
        absurd (alive (inr (inl torn))))
        (cases_eq (bit_and (bit_and all_bits m) (bit_xor u d)) 0)

    meets_bits : (m d : ℕ) → m < 2 ^ 32 → bit_and d m ≡ d → Contains known (Bits w m d) → bit_and u m ≡ d
    meets_bits m d small inside has = same_from_bits _ _ (λ i. omega (
      arith,
      bit_at_and u m i,
      ap (λ n. bit_at n i) (agree m d has),
      bit_at-zero i,
      bit_at_and (bit_and all_bits m) (bit_xor u d) i,
      bit_at_and all_bits m i,
      bit_at_xor u d i,
      ap (λ n. bit_at n i) inside,
      bit_at_and d m i,
      ap (λ n. bit_at n i) (and_all m small),
      bit_at_and m all_bits i,
      bit_at-lt m i,
      bit_at-lt d i,
      bit_at-lt u i,
      bit_at-lt all_bits i,
    ))

    -- a point of the word is its number
    point_is : (v : ℕ) → IsPoint known w v → v ≡ u
    point_is v point =
        sym (and_all v point.0)
        ∙ All-contains (λ l. index_of l ≡ w → IsWhole l → Meets l v) known (Bits w all_bits u) point.1 stated refl refl

    meets_in : (lo hi : ℕ) → Contains known (In w lo hi) → (lo ≤ u) × (u ≤ hi)
    meets_in lo hi has = ⊎_elim
        (λ (below : u < lo). absurd (alive (inl (λ v point.
        let m = All-contains (λ l. index_of l ≡ w → IsWhole l → Meets l v) known (In w lo hi) point.1 has refl tt in
        let e = point_is v point in
        omega (arith, m.0, m.1, e, below)))))
        (λ (from : lo ≤ u). ⊎_elim
        (λ (above : hi < u). absurd (alive (inl (λ v point.
        let m = All-contains (λ l. index_of l ≡ w → IsWhole l → Meets l v) known (In w lo hi) point.1 has refl tt in
        let e = point_is v point in
        omega (arith, m.0, m.1, e, above)))))
        (λ (to : u ≤ hi). (from, to))
        (cases_lt hi u))
        (cases_lt u lo)

    -- the union of all data is the number
    datum_is : datum_of known w ≡ u
    datum_is = same_from_bits _ _ (λ i. ⊎_elim
        (λ (set : bit_at (datum_of known w) i ≡ 1). by_bit i set (bit_found w i (λ m d. d) known set))
        (λ (unset : bit_at (datum_of known w) i ≡ 1 → ⊥).
        let low = bit_at-lt (datum_of known w) i in
        let own = bit_from w i (λ m d. d) all_bits u known stated in
        omega (arith, low, own, unset))
        (cases_eq (bit_at (datum_of known w) i) 1))
      where
        by_bit : (i : ℕ) → bit_at (datum_of known w) i ≡ 1
            → ((m : ℕ) × (d : ℕ) × Contains known (Bits w m d) × (bit_at d i ≡ 1))
            → bit_at (datum_of known w) i ≡ bit_at u i
        by_bit i set (m, d, has, is) =
            let lit = All-contains IsLit known (Bits w m d) lits has in
            let met = meets_bits m d lit.1 lit.2 has in
            omega (arith, set, is, ap (λ n. bit_at n i) met, bit_at_and u m i, bit_at-lt u i, bit_at-lt m i)

    mask_is : (m : ℕ) → m < 2 ^ 32 → IsWithin m (mask_of known w)
    mask_is m small = same_from_bits _ _ (λ i. omega (
      arith,
      bit_at_and m (mask_of known w) i,
      bit_from w i (λ m d. m) all_bits u known stated,
      ap (λ n. bit_at n i) (and_all m small),
      bit_at_and m all_bits i,
      bit_at-lt m i,
      bit_at-lt (mask_of known w) i,
      bit_at-lt all_bits i,
    ))

    meets_not : (m d : ℕ) → m < 2 ^ 32 → Contains known (NotBits w m d) → bit_and u m ≢ d
    meets_not m d small has is =
        let excluded : IsExcluded known w (mask_of known w) (datum_of known w) =
        record { mask = m; datum = d; stated = has; within = mask_is m small; same = ap (λ n. bit_and n m) datum_is ∙ is } in
        alive (inr (inr (inr excluded)))

    pub meets_at : (l : Lit) → Contains known l → index_of l ≡ w → Meets l u
    meets_at (In v lo hi) has is = meets_in lo hi (subst (λ x. Contains known (In x lo hi)) is has)
    meets_at (Bits v m d) has is =
        let lit = All-contains IsLit known (Bits v m d) lits has in
        meets_bits m d lit.1 lit.2 (subst (λ x. Contains known (Bits x m d)) is has)
    meets_at (NotBits v m d) has is =
        let lit = All-contains IsLit known (NotBits v m d) lits has in
        meets_not m d lit.1 (subst (λ x. Contains known (NotBits x m d)) is has)

index_small : (l : Lit) → IsLit l → index_of l < 16
index_small (In w lo hi) is = is.0
index_small (Bits w m d) is = is.0
index_small (NotBits w m d) is = is.0

-- a record of which each word is stated
pub record IsStatedBy (known : List Lit) (r : List ℕ) : Type 0 where
  pub is_record : IsRecord r
  pub all_hold : All (λ l. Holds l r) known
  pub stated : AreStated known r

pub stated_by_record : (known : List Lit) → All IsLit known → (r : List ℕ) → IsRecord r → AreStated known r → (IsDead known → ⊥)
    → IsStatedBy known r
stated_by_record known lits r is_record stated alive = record {
  is_record = is_record;
  all_hold = All-weaker (Contains known) (λ l. Holds l r)
      (λ l has.
      let w = index_of l in
      let below = index_small l (All-contains IsLit known l lits has) in
      meets_at known lits w (word r w) (stated w below) (λ dead. alive (w, below, dead)) l has refl)
      known (All-contains_itself known);
  stated = stated;
}

-- so are those of a record whose parts have the stated words
pub stated_words : (known : List Lit) (nr arch ip a b c d e f : ℕ) → Contains known (Bits 0 all_bits nr)
    → Contains known (Bits 1 all_bits arch) → AreHalves known 2 ip → AreHalves known 4 a → AreHalves known 6 b → AreHalves known 8 c
    → AreHalves known 10 d → AreHalves known 12 e → AreHalves known 14 f
    → AreStated known (words_from nr arch ip (a ∷ b ∷ c ∷ d ∷ e ∷ f ∷ []))
stated_words known nr arch ip a b c d e f n m i0 i1 i2 i3 i4 i5 i6 = λ w below. by w below
  where
    by : (w : ℕ) → w < 16 → Contains known (Bits w all_bits (word (words_from nr arch ip (a ∷ b ∷ c ∷ d ∷ e ∷ f ∷ [])) w))
    by zero below = n
    by (suc zero) below = m
    by (suc (suc zero)) below = i0.0
    by (suc (suc (suc zero))) below = i0.1
    by (suc (suc (suc (suc zero)))) below = i1.0
    by (suc (suc (suc (suc (suc zero))))) below = i1.1
    by (suc (suc (suc (suc (suc (suc zero)))))) below = i2.0
    by (suc (suc (suc (suc (suc (suc (suc zero))))))) below = i2.1
    by (suc (suc (suc (suc (suc (suc (suc (suc zero)))))))) below = i3.0
    by (suc (suc (suc (suc (suc (suc (suc (suc (suc zero))))))))) below = i3.1
    by (suc (suc (suc (suc (suc (suc (suc (suc (suc (suc zero)))))))))) below = i4.0
    by (suc (suc (suc (suc (suc (suc (suc (suc (suc (suc (suc zero))))))))))) below = i4.1
    by (suc (suc (suc (suc (suc (suc (suc (suc (suc (suc (suc (suc zero)))))))))))) below = i5.0
    by (suc (suc (suc (suc (suc (suc (suc (suc (suc (suc (suc (suc (suc zero))))))))))))) below = i5.1
    by (suc (suc (suc (suc (suc (suc (suc (suc (suc (suc (suc (suc (suc (suc zero)))))))))))))) below = i6.0
    by (suc (suc (suc (suc (suc (suc (suc (suc (suc (suc (suc (suc (suc (suc (suc zero))))))))))))))) below = i6.1
    by (suc (suc (suc (suc (suc (suc (suc (suc (suc (suc (suc (suc (suc (suc (suc (suc w)))))))))))))))) below = absurd (omega arith)
