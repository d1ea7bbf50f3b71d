-- What is gathered of a word in one pass is what its literals say.
use Rattle.std.proofs.Common.{◌≡◌, ◌≢◌, ℕ, zero, suc, ◌/◌, ◌%◌, ◌≤◌, min, max, cond, List, [], ◌∷◌, sym, refl, ap, subst, ◌∙◌, arith, inl, inr, ⊎_elim}
use Rattle.std.specs.Prelude.{Contains, bit_and, bit_or, bit_xor}
use Rattle.std.specs.Int.{bit_at}
use Rattle.std.specs.Int.Bits.{or_zero_r}
use Rattle.std.proofs.lemmas.Bool.{cases_eq, eq-eqb, ne_eqb}
use Rattle.std.proofs.lemmas.Nat.Bits.{bit_at_and, bit_at_or, bit_at_xor, bit_at-lt, bit_at-zero, bit_at_lowest, bit_at-suc, same_from_bits}
use Rattle.cert_state.specs.declared.literal.Lit.{Lit}
use Rattle.cert_state.specs.declared.literal.Lit.TheVariants.{In, Bits, NotBits}
use Rattle.cert_state.specs.declared.summary.Summary.{Summary}
use Rattle.cert_state.specs.Points.{union_of}
use Rattle.cert_state.specs.Entailment.{Differ, IsTornAt}
use Rattle.cert_state.specs.inner.Summary.{added_bits, summary_of, unknown}
use Rattle.cert_state.proofs.BitLaws.{or_assoc}
use Rattle.cert_state.proofs.ListLaws.{first_or_later, contains_here, contains_later}

zero_or : (n : ℕ) → bit_or 0 n ≡ n
zero_or n = same_from_bits _ _ (λ i. rw (bit_at_or 0 n i, bit_at-zero i) (omega arith))

-- a field that takes something of each Bits, and nothing of another literal, is a union in the end
module _ (w : ℕ) (field : Summary → ℕ) (part : ℕ → ℕ → ℕ)
    (bounds : (s : Summary) (lo hi : ℕ) → field (record s { low = lo; high = hi }) ≡ field s)
    (bits : (s : Summary) (m d : ℕ) → field (added_bits m d s) ≡ bit_or (field s) (part m d)) where
  gathered_from : (ls : List Lit) (s : Summary) → field (summary_of ls w s) ≡ bit_or (field s) (union_of part ls w)
  gathered_from [] s = sym (or_zero_r (field s))
  gathered_from (In v lo hi ∷ ls) s = ⊎_elim
      (λ (e : v ≡ w).
      ap (λ b. field (summary_of ls w (cond b (record s { low = max s.low lo; high = min s.high hi }) s))) (eq-eqb v w e)
      ∙ gathered_from ls _ ∙ ap (λ n. bit_or n (union_of part ls w)) (bounds s _ _))
      (λ (ne : v ≡ w → ⊥).
      ap (λ b. field (summary_of ls w (cond b (record s { low = max s.low lo; high = min s.high hi }) s))) (ne_eqb v w ne)
      ∙ gathered_from ls s)
      (cases_eq v w)
  gathered_from (NotBits v m d ∷ ls) s = gathered_from ls s
  gathered_from (Bits v m d ∷ ls) s = ⊎_elim
      (λ (e : v ≡ w). rw (eq-eqb v w e, summary_of)
      (gathered_from ls (added_bits m d s) ∙ ap (λ n. bit_or n (union_of part ls w)) (bits s m d)
      ∙ or_assoc (field s) (part m d) (union_of part ls w)))
      (λ (ne : v ≡ w → ⊥). rw (ne_eqb v w ne, summary_of) (gathered_from ls s))
      (cases_eq v w)

  pub gathered : (ls : List Lit) → field unknown ≡ 0 → field (summary_of ls w unknown) ≡ union_of part ls w
  gathered ls none = gathered_from ls unknown ∙ ap (λ n. bit_or n (union_of part ls w)) none ∙ zero_or (union_of part ls w)

-- a bit of a union is one of its parts
module _ (w i : ℕ) (part : ℕ → ℕ → ℕ) where
  more_bits : (l : Lit) (ls : List Lit) → bit_at (union_of part ls w) i ≤ bit_at (union_of part (l ∷ ls) w) i
  more_bits (In v lo hi) ls = omega arith
  more_bits (NotBits v m d) ls = omega arith
  more_bits (Bits v m d) ls = ⊎_elim
      (λ (e : v ≡ w). rw (eq-eqb v w e) (omega (arith, bit_at_or (part m d) (union_of part ls w) i)))
      (λ (ne : v ≡ w → ⊥). rw (ne_eqb v w ne) (omega arith))
      (cases_eq v w)

  own_bits : (m d : ℕ) (ls : List Lit) → bit_at (part m d) i ≤ bit_at (union_of part (Bits w m d ∷ ls) w) i
  own_bits m d ls = rw (eq-eqb w w refl) (omega (arith, bit_at_or (part m d) (union_of part ls w) i))

  pub bit_from : (m d : ℕ) (ls : List Lit) → Contains ls (Bits w m d) → bit_at (part m d) i ≤ bit_at (union_of part ls w) i
  bit_from m d [] (j, lt, is) = absurd (omega arith)
  bit_from m d (l ∷ ls) has = elim (first_or_later l (Bits w m d) ls has) [
    | inl is ↦ subst (λ k. bit_at (part m d) i ≤ bit_at (union_of part (k ∷ ls) w) i) (sym is) (own_bits m d ls)
    | inr later ↦ (let there = bit_from m d ls later in let more = more_bits l ls in omega (arith, there, more))
  ]

  pub bit_found : (ls : List Lit) → bit_at (union_of part ls w) i ≡ 1
      → (m : ℕ) × (d : ℕ) × Contains ls (Bits w m d) × (bit_at (part m d) i ≡ 1)
  bit_found [] h = absurd (omega (arith, bit_at-zero i, h))
  bit_found (In v lo hi ∷ ls) h =
      let (m, d, has, set) = bit_found ls h in (m, d, contains_later (In v lo hi) _ ls refl (Bits w m d) has, set)
  bit_found (NotBits v n e ∷ ls) h =
      let (m, d, has, set) = bit_found ls h in (m, d, contains_later (NotBits v n e) _ ls refl (Bits w m d) has, set)
  bit_found (Bits v n e ∷ ls) h = ⊎_elim
      (λ (at : v ≡ w).
      let k : bit_at (bit_or (part n e) (union_of part ls w)) i ≡ 1 =
      subst (λ b. bit_at (cond b (bit_or (part n e) (union_of part ls w)) (union_of part ls w)) i ≡ 1) (eq-eqb v w at) h in
      ⊎_elim
      (λ (own : bit_at (part n e) i ≡ 1). (n, e, contains_here (Bits v n e) _ ls refl (Bits w n e) (ap (λ x. Bits x n e) at), own))
      (λ (other : bit_at (part n e) i ≡ 1 → ⊥).
      let bits = bit_at_or (part n e) (union_of part ls w) i in
      let low = bit_at-lt (part n e) i in
      let (m, d, has, set) = bit_found ls (omega (arith, k, bits, low)) in
      (m, d, contains_later (Bits v n e) _ ls refl (Bits w m d) has, set))
      (cases_eq (bit_at (part n e) i) 1))
      (λ (ne : v ≡ w → ⊥).
      let k = subst (λ b. bit_at (cond b (bit_or (part n e) (union_of part ls w)) (union_of part ls w)) i ≡ 1) (ne_eqb v w ne) h in
      let (m, d, has, set) = bit_found ls k in
      (m, d, contains_later (Bits v n e) _ ls refl (Bits w m d) has, set))
      (cases_eq v w)

-- a number that is not 0 has a bit
some_bit : (fuel n : ℕ) → n ≤ fuel → n ≢ 0 → (i : ℕ) × (bit_at n i ≡ 1)
some_bit zero n le ne = absurd (ne (omega arith))
some_bit (suc fuel) n le ne = elim (cases_eq (n % 2) 1) [
  | inl odd ↦ (0, bit_at_lowest n ∙ odd)
  | inr even ↦
      (let (i, set) = some_bit fuel (n / 2) (omega arith) (λ e. ne (omega arith)) in (suc i, bit_at-suc n i ∙ set))
]

-- what is said of each bit: that it is set, and that it is not
abbrev pub ones_of : List Lit → ℕ → ℕ
ones_of ls w = union_of bit_and ls w

abbrev pub zeros_of : List Lit → ℕ → ℕ
zeros_of ls w = union_of (λ m d. bit_and m (bit_xor m d)) ls w

-- data of which one says that a bit is set and the other that it is not
differ_at : (m d n e i : ℕ) → bit_at (bit_and m d) i ≡ 1 → bit_at (bit_and n (bit_xor n e)) i ≡ 1 → Differ m d n e
differ_at m d n e i set unset none = absurd (omega (
  arith,
  set,
  unset,
  ap (λ x. bit_at x i) none,
  bit_at-zero i,
  bit_at_and m d i,
  bit_at_and n (bit_xor n e) i,
  bit_at_xor n e i,
  bit_at_and (bit_and m n) (bit_xor d e) i,
  bit_at_and m n i,
  bit_at_xor d e i,
  bit_at-lt m i,
  bit_at-lt n i,
  bit_at-lt d i,
  bit_at-lt e i,
))

pub torn_from : (ls : List Lit) (w : ℕ) → bit_and (ones_of ls w) (zeros_of ls w) ≢ 0 → IsTornAt ls w
torn_from ls w ne =
    let (i, set) = some_bit (bit_and (ones_of ls w) (zeros_of ls w)) (bit_and (ones_of ls w) (zeros_of ls w)) (omega arith) ne in
    let both = bit_at_and (ones_of ls w) (zeros_of ls w) i in
    let one_low = bit_at-lt (ones_of ls w) i in
    let zero_low = bit_at-lt (zeros_of ls w) i in
    let (m, d, one, is_set) = bit_found w i bit_and ls (omega (arith, set, both, one_low, zero_low)) in
    let (n, e, other, is_unset) = bit_found w i (λ m d. bit_and m (bit_xor m d)) ls (omega (arith, set, both, one_low, zero_low)) in
    record { mask = m; datum = d; other_mask = n; other_datum = e; one = one; other = other; differ = differ_at m d n e i is_set is_unset }

pub not_torn : (ls : List Lit) (w : ℕ) → IsTornAt ls w → bit_and (ones_of ls w) (zeros_of ls w) ≢ 0
not_torn ls w h none = h.differ (same_from_bits _ 0 (λ i.
    let m = h.mask in
    let d = h.datum in
    let n = h.other_mask in
    let e = h.other_datum in
    omega (
      arith,
      bit_from w i bit_and m d ls h.one,
      bit_from w i bit_and n e ls h.other,
      bit_from w i (λ m d. bit_and m (bit_xor m d)) m d ls h.one,
      bit_from w i (λ m d. bit_and m (bit_xor m d)) n e ls h.other,
      ap (λ x. bit_at x i) none,
      bit_at_and (ones_of ls w) (zeros_of ls w) i,
      bit_at-zero i,
      bit_at_and m d i,
      bit_at_and m (bit_xor m d) i,
      bit_at_xor m d i,
      bit_at_and n e i,
      bit_at_and n (bit_xor n e) i,
      bit_at_xor n e i,
      bit_at_and (bit_and m n) (bit_xor d e) i,
      bit_at_and m n i,
      bit_at_xor d e i,
      bit_at-lt m i,
      bit_at-lt n i,
      bit_at-lt d i,
      bit_at-lt e i,
    )))
