-- Numbers of 64 bits by their halves.
use Rattle.std.proofs.Common.{◌≡◌, ◌↔◌, ℕ, ◌+◌, ◌-◌, ◌*◌, ◌/◌, ◌%◌, ◌^◌, ◌<◌, ◌==◌, Bool, true, false, List, ap, sym, ◌∙◌}
use Rattle.std.proofs.Common.{arith, inl, inr, refl}
use Rattle.std.specs.Prelude.{Some, None, bit_and, slice_index, if◌then◌else◌}
use Rattle.std.proofs.lemmas.Bool.{cases_eq, cases_lt, eq-eqb, ne_eqb, le-leb, lt-leb}
use Rattle.std.proofs.lemmas.Nat.{and_block, and_le_r, and_mask}
use Rattle.call_record.specs.Words.{IsRecord, argument, word}
use Rattle.machines.specs.Width.{compared}
use Rattle.rule_compile.specs.declared.question.Comparison.{Comparison}
use Rattle.rule_compile.specs.declared.question.Comparison.TheVariants.{Equal, AtLeast}
use Rattle.rule_compile.specs.Questions.{compares, outcome}
use Rattle.rule_compile.specs.inner.Left.{IsOffset, IsQuestion}
use Rattle.rule_compile.specs.inner.Asked.{argument_at}

none_is_some : (x : ℕ) → None ≡ Some x → ⊥
none_is_some x is = cc

-- ---- comparisons

module _ (l h n : ℕ) (small : l < 2 ^ 32) where
  same_high : h ≡ n / 2 ^ 32 → (c : Comparison) → compares c n (l + 2 ^ 32 * h) ≡ compares c (n % 2 ^ 32) l
  same_high e Equal =
      elim (cases_eq l (n % 2 ^ 32)) [
        | inl same ↦ eq-eqb (l + 2 ^ 32 * h) n (omega (arith, e, same)) ∙ sym (eq-eqb l (n % 2 ^ 32) same)
        | inr other ↦ ne_eqb (l + 2 ^ 32 * h) n (λ is. other (omega (arith, is))) ∙ sym (ne_eqb l (n % 2 ^ 32) other)
      ]
  same_high e AtLeast =
      elim (cases_lt l (n % 2 ^ 32)) [
        | inl below ↦ lt-leb n (l + 2 ^ 32 * h) (omega (arith, e, below)) ∙ sym (lt-leb (n % 2 ^ 32) l below)
        | inr least ↦ le-leb n (l + 2 ^ 32 * h) (omega (arith, e, least)) ∙ sym (le-leb (n % 2 ^ 32) l least)
      ]

  other_high : (h ≡ n / 2 ^ 32 → ⊥) → (c : Comparison) → compares c n (l + 2 ^ 32 * h) ≡ compares c (n / 2 ^ 32) h
  other_high ne Equal = ne_eqb (l + 2 ^ 32 * h) n (λ is. ne (omega (arith, is))) ∙ sym (ne_eqb h (n / 2 ^ 32) ne)
  other_high ne AtLeast =
      elim (cases_lt h (n / 2 ^ 32)) [
        | inl below ↦ lt-leb n (l + 2 ^ 32 * h) (omega (arith, below)) ∙ sym (lt-leb (n / 2 ^ 32) h below)
        | inr least ↦ (let above : n / 2 ^ 32 < h = omega (arith, least, ne) in
            le-leb n (l + 2 ^ 32 * h) (omega (arith, above)) ∙ sym (le-leb (n / 2 ^ 32) h least))
      ]

  -- two numbers compare as their high halves do where these differ, and else as the low ones
  pub by_halves : (c : Comparison) → (if h == n / 2 ^ 32 then compares c (n % 2 ^ 32) l else compares c (n / 2 ^ 32) h)
      ≡ compares c n (l + 2 ^ 32 * h)
  by_halves c =
      elim (cases_eq h (n / 2 ^ 32)) [
        | inl e ↦ ap (λ t. if t then compares c (n % 2 ^ 32) l else compares c (n / 2 ^ 32) h) (eq-eqb h (n / 2 ^ 32) e)
            ∙ sym (same_high e c)
        | inr ne ↦ ap (λ t. if t then compares c (n % 2 ^ 32) l else compares c (n / 2 ^ 32) h) (ne_eqb h (n / 2 ^ 32) ne)
            ∙ sym (other_high ne c)
      ]

-- ---- words of a record

pub whole_word : (u : ℕ) → u < 2 ^ 32 → bit_and u 0xffffffff ≡ u
whole_word u small = and_mask u 32 ∙ (let e : u % 2 ^ 32 ≡ u = omega (arith, small) in e)

pub argument_is : (low index : ℕ) (r : List ℕ) → low ≡ 16 + 8 * index → argument_at low r ≡ argument r index
argument_is low index r is =
    let here : low / 4 ≡ 4 + 2 * index = omega (arith, is) in
    let above : low / 4 + 1 ≡ 5 + 2 * index = omega (arith, is) in
    ap (λ n. word r n + 2 ^ 32 * word r (low / 4 + 1)) here ∙ ap (λ n. word r (4 + 2 * index) + 2 ^ 32 * word r n) above

-- ---- bits under a mask

masked_halves : (l h m : ℕ) → l < 2 ^ 32 → bit_and (l + 2 ^ 32 * h) m ≡ bit_and h (m / 2 ^ 32) * 2 ^ 32 + bit_and l (m % 2 ^ 32)
masked_halves l h m small =
    let e : l + 2 ^ 32 * h ≡ h * 2 ^ 32 + l = omega arith in
    let f : m ≡ (m / 2 ^ 32) * 2 ^ 32 + m % 2 ^ 32 = omega arith in
    let below : m % 2 ^ 32 < 2 ^ 32 = omega arith in
    ap (λ n. bit_and n m) e ∙ ap (λ n. bit_and (h * 2 ^ 32 + l) n) f ∙ and_block 32 h (m / 2 ^ 32) l (m % 2 ^ 32) small below

-- the bits of a number under a mask are those of its halves
module _ (l h m d : ℕ) (small : l < 2 ^ 32) where
  low_small : bit_and l (m % 2 ^ 32) < 2 ^ 32
  low_small = omega (arith, and_le_r l (m % 2 ^ 32))

  pub bits_by_halves : ((bit_and h (m / 2 ^ 32) ≡ d / 2 ^ 32) × (bit_and l (m % 2 ^ 32) ≡ d % 2 ^ 32)) ↔ (bit_and (l + 2 ^ 32 * h) m ≡ d)
  bits_by_halves = (
    λ both. masked_halves l h m small ∙ (let e : bit_and h (m / 2 ^ 32) * 2 ^ 32 + bit_and l (m % 2 ^ 32) ≡ d = omega (arith, both) in e),
    λ is. (let e : bit_and h (m / 2 ^ 32) * 2 ^ 32 + bit_and l (m % 2 ^ 32) ≡ d = sym (masked_halves l h m small) ∙ is in
        (omega (arith, e, low_small), omega (arith, e, low_small))),
  )

-- a number with no stray bit has none in its halves
pub no_stray_halves : (m d : ℕ) → bit_and d m ≡ d → (bit_and (d / 2 ^ 32) (m / 2 ^ 32) ≡ d / 2 ^ 32)
    × (bit_and (d % 2 ^ 32) (m % 2 ^ 32) ≡ d % 2 ^ 32)
no_stray_halves m d is =
    let e : d % 2 ^ 32 + 2 ^ 32 * (d / 2 ^ 32) ≡ d = omega arith in
    (bits_by_halves (d % 2 ^ 32) (d / 2 ^ 32) m d (omega arith)).1 (ap (λ n. bit_and n m) e ∙ is)

-- ---- questions of an argument

module _ (low above number lo hi : ℕ) (at : low % 4 ≡ 0) (next : above ≡ low + 4) (lo_is : lo ≡ number % 2 ^ 32) (hi_is : hi ≡ number / 2 ^ 32)
    (r : List ℕ) (rec : IsRecord r) where
  low_word : bit_and (slice_index r ((above - 4) / 4)) 0xffffffff ≡ slice_index r (low / 4)
  low_word =
      let e : (above - 4) / 4 ≡ low / 4 = omega (arith, next) in
      ap (λ n. bit_and (slice_index r n) 0xffffffff) e ∙ whole_word (slice_index r (low / 4)) (rec.words (low / 4))

  high_word : bit_and (slice_index r (above / 4)) 0xffffffff ≡ slice_index r (low / 4 + 1)
  high_word =
      let e : above / 4 ≡ low / 4 + 1 = omega (arith, next) in
      ap (λ n. bit_and (slice_index r n) 0xffffffff) e ∙ whole_word (slice_index r (low / 4 + 1)) (rec.words (low / 4 + 1))

  pub argument_outcome : (c : Comparison) (wanted : Bool)
      → outcome (record { subject = record { word = above; mask = 0xffffffff }; comparison = c; number = hi; low = Some lo; wanted = wanted }) r
      ≡ compares c number (argument_at low r)
  argument_outcome c wanted =
      let u : ℕ = slice_index r (low / 4) in
      let v : ℕ = slice_index r (low / 4 + 1) in
      let b : ℕ = bit_and (slice_index r ((above - 4) / 4)) 0xffffffff in
      ap (λ n. if n == hi then compares c lo b else compares c hi n) high_word
      ∙ ap (λ n. if v == hi then compares c lo n else compares c hi v) low_word
      ∙ ap (λ n. if v == n then compares c lo u else compares c n v) hi_is
      ∙ ap (λ n. if v == number / 2 ^ 32 then compares c n u else compares c (number / 2 ^ 32) v) lo_is
      ∙ by_halves u v number (rec.words (low / 4)) c

-- ---- what is compared of an argument

-- the low half of it is the low word
compared_low : (narrow : Bool) (low : ℕ) (r : List ℕ) → IsRecord r → compared narrow (argument_at low r) % 2 ^ 32 ≡ slice_index r (low / 4)
compared_low true low r rec =
    let e : argument_at low r % 2 ^ 32 % 2 ^ 32 ≡ slice_index r (low / 4) = omega (arith, rec.words (low / 4)) in e
compared_low false low r rec =
    let e : argument_at low r % 2 ^ 32 ≡ slice_index r (low / 4) = omega (arith, rec.words (low / 4)) in e

module _ (narrow : Bool) (low : ℕ) (r : List ℕ) where
  pub compared_wide : narrow ≡ false → compared narrow (argument_at low r) ≡ argument_at low r
  compared_wide is = ap (λ n. compared n (argument_at low r)) is

  -- the high half of it is the high word where it is wide
  pub high_of_wide : (above : ℕ) → narrow ≡ false → above ≡ low + 4 → IsRecord r
      → compared narrow (argument_at low r) / 2 ^ 32 ≡ slice_index r (above / 4)
  high_of_wide above is next rec =
      let here : low / 4 + 1 ≡ above / 4 = omega (arith, next) in
      let e : argument_at low r / 2 ^ 32 ≡ slice_index r (low / 4 + 1) = omega (arith, rec.words (low / 4)) in
      ap (λ u. u / 2 ^ 32) (compared_wide is) ∙ e ∙ ap (slice_index r) here

-- the bits of what is compared are those of its halves
module _ (narrow : Bool) (low m d m0 m1 d0 d1 : ℕ) (m0_is : m0 ≡ m % 2 ^ 32) (m1_is : m1 ≡ m / 2 ^ 32)
    (d0_is : d0 ≡ d % 2 ^ 32) (d1_is : d1 ≡ d / 2 ^ 32) (r : List ℕ) (rec : IsRecord r) where
  pub bits_of_argument :
      ((bit_and (compared narrow (argument_at low r) / 2 ^ 32) m1 ≡ d1) × (bit_and (slice_index r (low / 4)) m0 ≡ d0))
      ↔ (bit_and (compared narrow (argument_at low r)) m ≡ d)
  bits_of_argument =
      let u : ℕ = compared narrow (argument_at low r) in
      let l : ℕ = slice_index r (low / 4) in
      let h : ℕ = u / 2 ^ 32 in
      let below : u % 2 ^ 32 ≡ l = compared_low narrow low r rec in
      let whole : l + 2 ^ 32 * h ≡ u = omega (arith, below) in
      let halves = bits_by_halves l h m d (rec.words (low / 4)) in (
        λ both. ap (λ n. bit_and n m) (sym whole)
            ∙ halves.0 (ap (bit_and h) (sym m1_is) ∙ both.0 ∙ d1_is, ap (bit_and l) (sym m0_is) ∙ both.1 ∙ d0_is),
        λ is. (let parts = halves.1 (ap (λ n. bit_and n m) whole ∙ is) in
            (ap (bit_and h) m1_is ∙ parts.0 ∙ sym d1_is, ap (bit_and l) m0_is ∙ parts.1 ∙ sym d0_is)),
      )

-- ---- questions of a word

pub word_question : (at mask number : ℕ) → IsOffset at → bit_and number mask ≡ number
    → IsQuestion (record { subject = record { word = at; mask = mask }; comparison = Equal; number = number; low = None; wanted = true })
word_question at mask number offset within = record {
  offset = offset;
  high = λ low is. absurd (none_is_some low is);
  masked = inr (omega (arith, within, and_le_r number mask));
}

-- a question of a whole word
pub whole_question : (at number : ℕ) (c : Comparison) (wanted : Bool) → IsOffset at
    → IsQuestion (record { subject = record { word = at; mask = 0xffffffff }; comparison = c; number = number; low = None; wanted = wanted })
whole_question at number c wanted offset = record {
  offset = offset;
  high = λ low is. absurd (none_is_some low is);
  masked = inl refl;
}
