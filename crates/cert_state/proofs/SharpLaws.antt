-- The sharp fact of the edge that is taken is true.
use Rattle.std.proofs.Common.{◌≡◌, ℕ, zero, suc, ◌+◌, ◌-◌, ◌*◌, ◌/◌, ◌%◌, ◌^◌, ◌<◌, ◌≤◌, Bool, true, false, cond, List, sym, ap, ◌∙◌}
use Rattle.std.proofs.Common.{refl, subst, eqb, leb, ltb, ⊎_elim, inl, inr, arith}
use Rattle.std.specs.Prelude.{bit_and, bit_or, bit_xor, min, ⊤, None, IfSome, All}
use lib.Count.{count_trailing_zeros, under as below_one}
use Rattle.std.specs.Int.{w32, bit_at, trailing_zeros}
use Rattle.std.specs.Int.Bits.{and_zero_r}
use Rattle.std.proofs.lemmas.Nat.{and_le_l, and_le_r, le_or_r, mod_below, mul-le, or_block, or_disjoint, or_lt, pow_pos, shr_split, trailing_le}
use Rattle.std.proofs.lemmas.Nat.Bits.{and_high_mask, and_pow, bit_at-lt, bit_at-suc, bit_at-zero, bit_at_lowest, bit_at_above, bit_at_and, same_from_bits}
use Rattle.std.proofs.lemmas.Bool.{cases_Bool, cases_eq, cases_lt, eqb-true, ne_eqb, ltb-true, ltb-false, leb-true, leb-false, lt-ltb, le-ltb, le-leb}
use Rattle.call_record.specs.Words.{IsRecord, word}
use Rattle.bpf_insn.specs.declared.code.Test.{Test}
use Rattle.bpf_insn.specs.declared.code.Test.TheVariants.{Equal, Greater, AtLeast, AnyBit}
use Rattle.bpf_insn.specs.declared.instruction.Insn.{Insn}
use Rattle.bpf_insn.specs.Machine.{operand, holds}
use Rattle.cert_state.specs.declared.literal.Lit.{Lit}
use Rattle.cert_state.specs.declared.literal.AVal.{AVal}
use Rattle.cert_state.specs.declared.literal.AVal.TheVariants.{Unknown, Const, Masked}
use Rattle.cert_state.specs.declared.literal.Regs.{Regs}
use Rattle.cert_state.specs.Literals.{Holds, all_bits}
use Rattle.cert_state.specs.Points.{datum_of, mask_of}
use Rattle.cert_state.specs.States.{HasValue}
use Rattle.cert_state.specs.Transfer.{masked_fact, operand_value}
use Rattle.cert_state.specs.Sharp.{above_fact, any_fact, beside_fact, is_bit, is_high, lowest_bit, outside, part_fact, sharp_fact_by}
use Rattle.cert_state.specs.Sharp.{sharp_masked_fact, sharp_test_fact}
use Rattle.cert_state.specs.Soundness.{FollowsSharpFact}
use Rattle.cert_state.proofs.BitLaws.{and_all, and_parts}
use Rattle.cert_state.proofs.EdgeLaws.{masked_is_true, operand_has_value, test_is_true}
use Rattle.cert_state.proofs.KnownLaws.{under}

-- a number with its lowest k bits set
or_ones : (c k : ℕ) → bit_or c (2 ^ k - 1) ≡ c / 2 ^ k * 2 ^ k + (2 ^ k - 1)
or_ones c k =
    let some = pow_pos k in
    let low : c % 2 ^ k < 2 ^ k = mod_below c (2 ^ k) some in
    let ones : 2 ^ k - 1 < 2 ^ k = omega (arith, some) in
    let rest : bit_or (c % 2 ^ k) (2 ^ k - 1) ≡ 2 ^ k - 1 =
    omega (arith, le_or_r (c % 2 ^ k) (2 ^ k - 1), or_lt k (c % 2 ^ k) (2 ^ k - 1) low ones) in
    let high : bit_or (c / 2 ^ k) 0 ≡ c / 2 ^ k = or_disjoint (c / 2 ^ k) 0 (and_zero_r (c / 2 ^ k)) ∙ omega arith in
    let padded : 2 ^ k - 1 ≡ 0 * 2 ^ k + (2 ^ k - 1) = omega arith in
    ap (λ n. bit_or n (2 ^ k - 1)) (sym (shr_split c k))
    ∙ (ap (λ n. bit_or (c / 2 ^ k * 2 ^ k + c % 2 ^ k) n) padded
    ∙ (or_block k (c / 2 ^ k) 0 (c % 2 ^ k) (2 ^ k - 1) low ones
    ∙ (ap (λ n. n * 2 ^ k + bit_or (c % 2 ^ k) (2 ^ k - 1)) high ∙ ap (λ n. c / 2 ^ k * 2 ^ k + n) rest)))

-- a number is above c by its bits from k up just where it is above c with its lowest k bits set
module _ (u c k : ℕ) where
  above : c < u / 2 ^ k * 2 ^ k → c / 2 ^ k * 2 ^ k + (2 ^ k - 1) < u
  above h = elim (cases_lt (c / 2 ^ k) (u / 2 ^ k)) [
    | inl less ↦
        let one_more = mul-le (suc (c / 2 ^ k)) (2 ^ k) (u / 2 ^ k) (2 ^ k) less (omega arith) in
        omega (arith, one_more, pow_pos k, shr_split u k)
    | inr no_less ↦ absurd (omega (arith, h, shr_split c k, mul-le (u / 2 ^ k) (2 ^ k) (c / 2 ^ k) (2 ^ k) no_less (omega arith)))
  ]

  below : u / 2 ^ k * 2 ^ k ≤ c → u ≤ c / 2 ^ k * 2 ^ k + (2 ^ k - 1)
  below h = elim (cases_lt (c / 2 ^ k) (u / 2 ^ k)) [
    | inl less ↦
        let one_more = mul-le (suc (c / 2 ^ k)) (2 ^ k) (u / 2 ^ k) (2 ^ k) less (omega arith) in
        absurd (omega (arith, h, one_more, shr_split c k, mod_below c (2 ^ k) (pow_pos k)))
    | inr no_less ↦
        omega (
          arith,
          mul-le (u / 2 ^ k) (2 ^ k) (c / 2 ^ k) (2 ^ k) no_less (omega arith),
          shr_split u k,
          mod_below u (2 ^ k) (pow_pos k),
        )
  ]

-- the lowest bit is one of 32, or above them
place : (n : ℕ) → trailing_zeros w32 n ≤ 32
place n = trailing_le 32 n

-- a word under a mask of its high bits
high_part : (u m : ℕ) → u < 2 ^ 32 → m + lowest_bit m ≡ 2 ^ 32 → bit_and u m ≡ u / lowest_bit m * lowest_bit m
high_part u m small high =
    let mask : m ≡ 2 ^ 32 - lowest_bit m = omega (arith, high) in
    ap (λ n. bit_and u n) mask ∙ and_high_mask 32 (trailing_zeros w32 m) (place m) u small

-- the bits that such a mask leaves out
low_part : (c m : ℕ) → m + lowest_bit m ≡ 2 ^ 32 → bit_or c (all_bits - m) ≡ c / lowest_bit m * lowest_bit m + (lowest_bit m - 1)
low_part c m high =
    let rest : all_bits - m ≡ lowest_bit m - 1 = omega (arith, high) in
    ap (λ n. bit_or c n) rest ∙ or_ones c (trailing_zeros w32 m)

-- a comparison of the high bits is one of the word
same_order : (u m c a : ℕ) (b : Bool) → u < 2 ^ 32 → a ≡ bit_and u m → m + lowest_bit m ≡ 2 ^ 32 → holds Greater a c ≡ b
    → holds Greater u (bit_or c (all_bits - m)) ≡ b
same_order u m c a true small h high e =
    let k : ℕ = trailing_zeros w32 m in
    let is : a ≡ u / 2 ^ k * 2 ^ k = h ∙ high_part u m small high in
    let less = above u c k (omega (arith, is, ltb-true c a e)) in
    lt-ltb (bit_or c (all_bits - m)) u (omega (arith, low_part c m high, less))
same_order u m c a false small h high e =
    let k : ℕ = trailing_zeros w32 m in
    let is : a ≡ u / 2 ^ k * 2 ^ k = h ∙ high_part u m small high in
    let less = below u c k (omega (arith, is, ltb-false c a e)) in
    le-ltb (bit_or c (all_bits - m)) u (omega (arith, low_part c m high, less))

-- where a mask has one bit, and that of a word is not 0, it is set
pub bit_is_set : (b u : ℕ) → b ≡ lowest_bit b → (bit_and u b ≡ 0 → ⊥) → bit_and u b ≡ b
bit_is_set b u one some =
    let k : ℕ = trailing_zeros w32 b in
    let is : bit_and u b ≡ bit_at u k * 2 ^ k = ap (λ n. bit_and u n) one ∙ and_pow u k in
    elim (cases_eq (bit_at u k) 0) [
      | inl unset ↦ let none : 0 * 2 ^ k ≡ 0 = omega arith in absurd (some (is ∙ (ap (λ n. n * 2 ^ k) unset ∙ none)))
      | inr set ↦
          let bit : bit_at u k ≡ 1 = omega (arith, set, bit_at-lt u k) in
          let whole : 1 * 2 ^ k ≡ lowest_bit b = omega arith in
          is ∙ (ap (λ n. n * 2 ^ k) bit ∙ (whole ∙ sym one))
    ]

-- a number has no bit below its lowest one
none_by : (n t d : ℕ) → n % 2 ≡ d → ((i : ℕ) → i < t → bit_at (n / 2) i ≡ 0) → (i : ℕ) → i < below_one d t → bit_at n i ≡ 0
none_by n t (suc d) odd half i l = absurd (omega arith)
none_by n t zero even half zero l = bit_at_lowest n ∙ even
none_by n t zero even half (suc i) l = bit_at-suc n i ∙ half i (omega arith)

none_below : (k n i : ℕ) → i < count_trailing_zeros k n → bit_at n i ≡ 0
unfolding count_trailing_zeros
none_below zero n i l = absurd (omega arith)
none_below (suc k) n i l = none_by n (count_trailing_zeros k (n / 2)) (n % 2) refl (none_below k (n / 2)) i l

-- a word with a bit of a mask is at least the lowest one
pub above_lowest : (u m : ℕ) → (bit_and u m ≡ 0 → ⊥) → lowest_bit m ≤ u
above_lowest u m some = elim (cases_lt u (lowest_bit m)) [
  | inl less ↦ absurd (some (same_from_bits (bit_and u m) 0 (λ i. bit_at_and u m i ∙ (none less i ∙ sym (bit_at-zero i)))))
  | inr no_less ↦ no_less
] where
  none : u < lowest_bit m → (i : ℕ) → min (bit_at u i) (bit_at m i) ≡ 0
  none less i = elim (cases_lt i (trailing_zeros w32 m)) [
    | inl low ↦ let unset : bit_at m i ≡ 0 = none_below 32 m i low in
        ap (λ n. min (bit_at u i) n) unset ∙ omega arith
    | inr high ↦ let unset : bit_at u i ≡ 0 = bit_at_above u (trailing_zeros w32 m) i less high in
        ap (λ n. min n (bit_at m i)) unset ∙ omega arith
  ]

-- with what a word has besides, a comparison of it under a mask is one of the word
same_beside : (u a c d : ℕ) (b : Bool) → u < 2 ^ 32 → a + d ≡ u → holds Greater a c ≡ b → holds Greater u (min (c + d) all_bits) ≡ b
same_beside u a c d true small is e = lt-ltb (min (c + d) all_bits) u (omega (arith, is, ltb-true c a e))
same_beside u a c d false small is e = le-ltb (min (c + d) all_bits) u (omega (arith, small, is, ltb-false c a e))

and_twice : (u m : ℕ) → bit_and (bit_and u m) m ≡ bit_and u m
and_twice u m = same_from_bits _ _ (λ i. omega (arith, bit_at_and (bit_and u m) m i, bit_at_and u m i))

module _ (r : List ℕ) (w : ℕ) (rec : IsRecord r) (lits : List Lit) (known : All (λ l. Holds l r) lits) where
  -- what is known of the word itself is true
  whole : (t : Test) (c : ℕ) (b : Bool) → holds t (word r w) c ≡ b → IfSome (masked_fact t w all_bits c b) (λ l. Holds l r)
  whole t c b e = masked_is_true t r w all_bits c (word r w) b rec (sym (and_all (word r w) (rec.words w))) e

  -- some bit of the mask is set, or none
  any_is_so : (m : ℕ) (b : Bool) → (b ≡ true → bit_and (word r w) m ≡ 0 → ⊥) → (b ≡ false → bit_and (word r w) m ≡ 0)
      → IfSome (any_fact w m b) (λ l. Holds l r)
  any_is_so m true some none = ⊎_elim
      (λ (one : is_bit m ≡ true). rw one (bit_is_set m (word r w) (eqb-true m (lowest_bit m) one) (some refl)))
      (λ (more : is_bit m ≡ false). rw more (some refl))
      (cases_Bool (is_bit m))
  any_is_so m false some none = none refl

  -- under a mask it is 0, or it has the lowest bit of the mask or a higher one
  beside_is_true : (m c a : ℕ) (b : Bool) → a ≡ bit_and (word r w) m → holds Greater a c ≡ b
      → IfSome (beside_fact w m c (outside lits w m) b) (λ l. Holds l r)
  beside_is_true m c a b h e = ⊎_elim
      (λ (all : eqb (bit_and rest (mask_of lits w)) rest ≡ true).
      rw all (whole Greater (min (c + d) all_bits) b (same_beside (word r w) a c d b (rec.words w) (is all) e)))
      (λ (some : eqb (bit_and rest (mask_of lits w)) rest ≡ false). rw some (by_way b e))
      (cases_Bool (eqb (bit_and rest (mask_of lits w)) rest))
    where
      rest : ℕ
      rest = bit_xor m all_bits

      d : ℕ
      d = bit_and (datum_of lits w) rest

      is : eqb (bit_and rest (mask_of lits w)) rest ≡ true → a + d ≡ word r w
      is all =
          let has : bit_and (word r w) rest ≡ d =
          under r rec lits known w rest d (record { within = eqb-true (bit_and rest (mask_of lits w)) rest all; datum = refl }) in
          ap (λ n. n + d) h ∙ (ap (λ n. bit_and (word r w) m + n) (sym has) ∙ and_parts (word r w) m (rec.words w))

      by_order : (b : Bool) → holds Greater a c ≡ b
          → IfSome (cond b (masked_fact Greater w all_bits c true) None) (λ l. Holds l r)
      by_order true e =
          whole Greater c true (lt-ltb c (word r w) (omega (arith, h, ltb-true c a e, and_le_l (word r w) m)))
      by_order false e = tt

      by_way : (b : Bool) → holds Greater a c ≡ b → IfSome (beside_fact w m c None b) (λ l. Holds l r)
      by_way b e = ⊎_elim
          (λ (less : ltb c (lowest_bit m) ≡ true).
          rw less (any_is_so m b (some b e) (none b e (ltb-true c (lowest_bit m) less))))
          (λ (other : ltb c (lowest_bit m) ≡ false). rw other (by_order b e))
          (cases_Bool (ltb c (lowest_bit m)))
        where
          some : (b : Bool) → holds Greater a c ≡ b → b ≡ true → bit_and (word r w) m ≡ 0 → ⊥
          some b e is_taken nothing = omega (arith, h, nothing, ltb-true c a (e ∙ is_taken))

          none : (b : Bool) → holds Greater a c ≡ b → c < lowest_bit m → b ≡ false → bit_and (word r w) m ≡ 0
          none b e less is_not = elim (cases_eq (bit_and (word r w) m) 0) [
            | inl nothing ↦ nothing
            | inr more ↦
                let least = above_lowest (bit_and (word r w) m) m (λ z. more (sym (and_twice (word r w) m) ∙ z)) in
                absurd (omega (arith, h, less, least, ltb-false c a (e ∙ is_not)))
          ]

  part_is_true : (m c a : ℕ) (b : Bool) → a ≡ bit_and (word r w) m → holds Greater a c ≡ b
      → IfSome (part_fact lits w m c b) (λ l. Holds l r)
  part_is_true m c a true h e = ⊎_elim
      (λ (never : leb m c ≡ true). absurd (omega (arith, h, and_le_r (word r w) m, leb-true m c never, ltb-true c a e)))
      (λ (other : leb m c ≡ false). rw other (beside_is_true m c a true h e))
      (cases_Bool (leb m c))
  part_is_true m c a false h e = beside_is_true m c a false h e

  above_is_true : (m c a : ℕ) (b : Bool) → a ≡ bit_and (word r w) m → holds Greater a c ≡ b
      → IfSome (above_fact lits w m c b) (λ l. Holds l r)
  above_is_true m c a b h e = ⊎_elim
      (λ (high : is_high m ≡ true).
      rw high (whole Greater (bit_or c (all_bits - m)) b
      (same_order (word r w) m c a b (rec.words w) h (eqb-true (m + lowest_bit m) (2 ^ 32) high) e)))
      (λ (other : is_high m ≡ false). rw other (part_is_true m c a b h e))
      (cases_Bool (is_high m))

  -- at least c, where c is not 0, is above c - 1
  least_is_true : (m c a : ℕ) (b : Bool) → a ≡ bit_and (word r w) m → holds AtLeast a c ≡ b
      → IfSome (sharp_masked_fact lits AtLeast w m c b) (λ l. Holds l r)
  least_is_true m c a b h e = elim (cases_eq c 0) [
    | inl none ↦ rw none (whole AtLeast 0 b (sym (always (word r w) a) ∙ (ap (holds AtLeast a) (sym none) ∙ e)))
    | inr some ↦ rw (ne_eqb c 0 some) (above_is_true m (c - 1) a b h (before b e some))
  ] where
    always : (u v : ℕ) → holds AtLeast v 0 ≡ holds AtLeast u 0
    always u v = le-leb 0 v (omega arith) ∙ sym (le-leb 0 u (omega arith))

    before : (b : Bool) → holds AtLeast a c ≡ b → (c ≡ 0 → ⊥) → holds Greater a (c - 1) ≡ b
    before true e some = lt-ltb (c - 1) a (omega (arith, leb-true c a e, some))
    before false e some = le-ltb (c - 1) a (omega (arith, leb-false c a e))

  never : true ≡ false → ⊥
  never is = subst (λ b. cond b ⊤ ⊥) is tt

  any_is_true : (m c a : ℕ) (b : Bool) → a ≡ bit_and (word r w) m → holds AnyBit a c ≡ b
      → IfSome (any_fact w (bit_and m c) b) (λ l. Holds l r)
  any_is_true m c a true h e = any_is_so (bit_and m c) true (λ _. masked_is_true AnyBit r w m c a true rec h e) (λ is. absurd (never is))
  any_is_true m c a false h e = any_is_so (bit_and m c) false (λ is. absurd (never (sym is))) (λ _. masked_is_true AnyBit r w m c a false rec h e)

  sharp_masked_is_true : (t : Test) (m c a : ℕ) (b : Bool) → a ≡ bit_and (word r w) m → holds t a c ≡ b
      → IfSome (sharp_masked_fact lits t w m c b) (λ l. Holds l r)
  sharp_masked_is_true Equal m c a b h e = masked_is_true Equal r w m c a b rec h e
  sharp_masked_is_true Greater m c a b h e = above_is_true m c a b h e
  sharp_masked_is_true AtLeast m c a b h e = least_is_true m c a b h e
  sharp_masked_is_true AnyBit m c a b h e = any_is_true m c a b h e

sharp_test_is_true : (t : Test) (r : List ℕ) (v w : AVal) (a c : ℕ) (lits : List Lit) → IsRecord r → All (λ l. Holds l r) lits
    → HasValue v r a → HasValue w r c → IfSome (sharp_test_fact lits t v w (holds t a c)) (λ l. Holds l r)
sharp_test_is_true t r (Masked i m) (Const n) a c lits rec known h k =
    sharp_masked_is_true r i rec lits known t m n a (holds t a c) h (ap (λ x. holds t a x) (sym k))
sharp_test_is_true t r (Const m) w a c lits rec known h k = test_is_true t r (Const m) w a c rec h k
sharp_test_is_true t r Unknown w a c lits rec known h k = tt
sharp_test_is_true t r (Masked i m) Unknown a c lits rec known h k = tt
sharp_test_is_true t r (Masked i m) (Masked j n) a c lits rec known h k = tt

pub follows_sharp_fact : (regs : Regs) (lits : List Lit) (i : Insn) → FollowsSharpFact regs lits i
follows_sharp_fact regs lits i r s t o rec inside is =
    subst (λ op. IfSome (sharp_fact_by lits op i regs (holds t s.a (operand o i s))) (λ l. Holds l r)) (sym is)
    (sharp_test_is_true t r regs.a (operand_value o i regs) s.a (operand o i s) lits rec inside.known inside.has_a
    (operand_has_value o i regs r s inside.has_x))
