-- Of two numbers one is greater just if it turns up from the other at a place. It has the same bits above the place, and there a 1 for a 0.
use Rattle.std.proofs.Common.{◌≡◌, ℕ, zero, suc, ◌+◌, ◌-◌, ◌*◌, ◌/◌, ◌%◌, ◌^◌, ◌<◌, ◌≤◌, inl, inr, refl, sym, ◌∙◌, ap, subst, arith}
use Rattle.std.specs.Prelude.{◌↔◌, bit_and}
use Rattle.std.proofs.lemmas.Bool.{cases_lt}
use Rattle.std.proofs.lemmas.Nat.{shr-shr, shl-shr, shr_split, field_of, shr_below, pow_pos, le-div, mul-le}
use Rattle.std.proofs.lemmas.Nat.Bits.{and_high}
use Rattle.std.proofs.Math.Nat.{suc-mul, add-mul}
use Rattle.widths.specs.Patterns.{high}

-- w turns up from v at a place
abbrev pub Turns : ℕ → ℕ → ℕ → Type 0
Turns v w i = (v / 2 ^ i % 2 ≡ 0) × (w / 2 ^ i ≡ v / 2 ^ i + 1)

halved : (v i : ℕ) → v / 2 / 2 ^ i ≡ v / 2 ^ (suc i)
halved v i = let e : 1 + i ≡ suc i = omega arith in shr-shr v 1 i ∙ ap (λ k. v / 2 ^ k) e

half_below : (w b : ℕ) → w < 2 ^ suc b → w / 2 < 2 ^ b
half_below w b lt = let e : suc b ≡ b + 1 = omega arith in shr_below w b 1 (subst (λ k. w < 2 ^ k) e lt)

first_turn : (v w : ℕ) → v < w → w / 2 ≤ v / 2 → Turns v w 0
first_turn v w lt le =
    let dv : v / 1 ≡ v = omega arith in
    let dw : w / 1 ≡ w = omega arith in
    (rw dv (omega arith), rw (dv, dw) (omega arith))

later_turn : (v w i : ℕ) → Turns (v / 2) (w / 2) i → Turns v w (suc i)
later_turn v w i t =
    let ev = halved v i in
    let ew = halved w i in
    (subst (λ x. x % 2 ≡ 0) ev t.0, sym ew ∙ t.1 ∙ ap (λ x. x + 1) ev)

pub turn_below : (b v w : ℕ) → v < w → w < 2 ^ b → (i : ℕ) × (i < b) × Turns v w i
turn_below zero v w lt fits = absurd (omega (arith, fits))
turn_below (suc b) v w lt fits =
    elim (cases_lt (v / 2) (w / 2)) [
      | inl less ↦
          let rest = turn_below b (v / 2) (w / 2) less (half_below w b fits) in
          (suc rest.0, omega (arith, rest.1), later_turn v w rest.0 rest.2)
      | inr more ↦ (0, omega arith, first_turn v w lt more)
    ]

above_by : (v w i : ℕ) → w / 2 ^ i ≡ v / 2 ^ i + 1 → w ≤ v → ⊥
above_by v w i e le =
    let split = shr_split w i in
    let under : w / 2 ^ i * 2 ^ i ≤ v = omega (arith, split) in
    let more = le-div (w / 2 ^ i) v (2 ^ i) (pow_pos i) under in
    omega (arith, more, e)

pub turn_above : (v w i : ℕ) → Turns v w i → v < w
turn_above v w i t =
    elim (cases_lt v w) [
      | inl less ↦ less
      | inr more ↦ absurd (above_by v w i t.1 more)
    ]

-- ---- the numbers that have given bits from a place on

pub high_is : (v i : ℕ) → high v i ≡ v / 2 ^ i * 2 ^ i
high_is v i = let split = shr_split v i in omega (arith, split)

raised : (v i : ℕ) → high v i + 2 ^ i ≡ (v / 2 ^ i + 1) * 2 ^ i
raised v i =
    let e = high_is v i in
    let m = add-mul (v / 2 ^ i) 1 (2 ^ i) in
    omega (arith, e, m)

lowered_by : (q p h : ℕ) → h ≡ q * p → 0 < q → h - p ≡ (q - 1) * p
lowered_by zero p h e pos = absurd (omega (arith, pos))
lowered_by (suc q) p h e pos =
    let m = suc-mul q p in
    let one : suc q - 1 ≡ q = omega arith in
    rw one (omega (arith, e, m))

lowered : (v i : ℕ) → 0 < v / 2 ^ i → high v i - 2 ^ i ≡ (v / 2 ^ i - 1) * 2 ^ i
lowered v i pos = lowered_by (v / 2 ^ i) (2 ^ i) (high v i) (high_is v i) pos

seen_by : (u j k : ℕ) → bit_and u (2 ^ (j + k) - 2 ^ k) ≡ u % 2 ^ (j + k) / 2 ^ k * 2 ^ k
seen_by u j k = and_high u j k ∙ ap (λ x. x * 2 ^ k) (sym (field_of u j k))

-- under the mask of the bits from a place on, up to a width
pub seen : (u b i : ℕ) → i < b → bit_and u (2 ^ b - 2 ^ i) ≡ u % 2 ^ b / 2 ^ i * 2 ^ i
seen u b i lt =
    let e : (b - i) + i ≡ b = omega arith in
    subst (λ n. bit_and u (2 ^ n - 2 ^ i) ≡ u % 2 ^ n / 2 ^ i * 2 ^ i) e (seen_by u (b - i) i)

cancelled : (a q i : ℕ) → a * 2 ^ i ≡ q * 2 ^ i → a ≡ q
cancelled a q i e = sym (shl-shr a i) ∙ ap (λ x. x / 2 ^ i) e ∙ shl-shr q i

pub has_high : (u b i q d : ℕ) → i < b → d ≡ q * 2 ^ i → bit_and u (2 ^ b - 2 ^ i) ≡ d ↔ (u % 2 ^ b / 2 ^ i ≡ q)
has_high u b i q d lt is = (
  λ h. cancelled (u % 2 ^ b / 2 ^ i) q i (sym (seen u b i lt) ∙ h ∙ is),
  λ h. seen u b i lt ∙ ap (λ x. x * 2 ^ i) h ∙ sym is,
)

-- those that turn up from v, and those that turn down
pub has_raised : (u b i v : ℕ) → i < b → v / 2 ^ i % 2 ≡ 0 → bit_and u (2 ^ b - 2 ^ i) ≡ high v i + 2 ^ i ↔ Turns v (u % 2 ^ b) i
has_raised u b i v lt even =
    let is = has_high u b i (v / 2 ^ i + 1) (high v i + 2 ^ i) lt (raised v i) in
    (λ h. (even, is.0 h), λ t. is.1 t.1)

pub has_lowered : (u b i v : ℕ) → i < b → v / 2 ^ i % 2 ≡ 1 → bit_and u (2 ^ b - 2 ^ i) ≡ high v i - 2 ^ i ↔ Turns (u % 2 ^ b) v i
has_lowered u b i v lt odd =
    let pos : 0 < v / 2 ^ i = omega arith in
    let is = has_high u b i (v / 2 ^ i - 1) (high v i - 2 ^ i) lt (lowered v i pos) in
    (λ h. let e = is.0 h in (omega (arith, e), omega (arith, e)), λ t. is.1 (omega (arith, t.1)))
