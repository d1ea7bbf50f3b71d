-- Bits of a number by its half and its lowest bit.
use Rattle.std.proofs.Common.{◌≡◌, ◌≢◌, ℕ, zero, suc, ◌+◌, ◌-◌, ◌*◌, ◌/◌, ◌%◌, ◌^◌, ◌<◌, ◌≤◌, bit_and, refl, sym, ◌∙◌}
use Rattle.std.proofs.Common.{ap, arith, min, inl, inr}
use Rattle.std.proofs.lemmas.Nat.{and_block, pow_pos, mod_below, pow-add, shr_split}
use Rattle.std.proofs.lemmas.Bool.{cases_lt}
use Rattle.std.proofs.Math.Nat.{div-eq_of_lt}
use Rattle.call_record.specs.Bits.{IsLeastFrom}

-- bits one by one
pub and_bit : (x y : ℕ) → x < 2 → y < 2 → bit_and x y ≡ min x y
and_bit zero zero p q = refl
and_bit zero (suc zero) p q = refl
and_bit zero (suc (suc y)) p q = absurd (omega arith)
and_bit (suc zero) zero p q = refl
and_bit (suc zero) (suc zero) p q = refl
and_bit (suc zero) (suc (suc y)) p q = absurd (omega arith)
and_bit (suc (suc x)) y p q = absurd (omega arith)

pub and_halves : (v m : ℕ) → bit_and v m ≡ bit_and (v / 2) (m / 2) * 2 + min (v % 2) (m % 2)
and_halves v m =
    let ev : v ≡ v / 2 * 2 ^ 1 + v % 2 = omega arith in
    let em : m ≡ m / 2 * 2 ^ 1 + m % 2 = omega arith in
    let lv : v % 2 < 2 ^ 1 = omega arith in
    let lm : m % 2 < 2 ^ 1 = omega arith in
    let block : bit_and (v / 2 * 2 ^ 1 + v % 2) (m / 2 * 2 ^ 1 + m % 2) ≡ bit_and (v / 2) (m / 2) * 2 ^ 1 + bit_and (v % 2) (m % 2) =
    and_block 1 (v / 2) (m / 2) (v % 2) (m % 2) lv lm in
    let left : bit_and v m ≡ bit_and (v / 2 * 2 ^ 1 + v % 2) (m / 2 * 2 ^ 1 + m % 2) = cc in
    let bit : bit_and (v % 2) (m % 2) ≡ min (v % 2) (m % 2) = and_bit (v % 2) (m % 2) (omega arith) (omega arith) in
    left ∙ block ∙ ap (λ x. bit_and (v / 2) (m / 2) * 2 + x) bit

-- what v & m ≡ d says of the halves, and back
pub halves_down : (v m d : ℕ) → bit_and v m ≡ d → (bit_and (v / 2) (m / 2) ≡ d / 2) × (min (v % 2) (m % 2) ≡ d % 2)
halves_down v m d h =
    let e : bit_and v m ≡ bit_and (v / 2) (m / 2) * 2 + min (v % 2) (m % 2) = and_halves v m in
    (omega arith, omega arith)

pub halves_up : (v m d : ℕ) → bit_and (v / 2) (m / 2) ≡ d / 2 → min (v % 2) (m % 2) ≡ d % 2 → bit_and v m ≡ d
halves_up v m d h b = and_halves v m ∙ omega arith

-- where the search goes on, one bit up
abbrev pub next_of : ℕ → ℕ → ℕ
next_of from d = from / 2 + (from % 2 + 1 - d % 2) / 2

-- Where the mask lacks the lowest bit, half of `from` has not the bits of half the datum.
half_apart : (from m d : ℕ) → bit_and from m ≢ d → m % 2 ≡ 0 → d % 2 ≡ 0 → bit_and (from / 2) (m / 2) ≡ d / 2 → ⊥
half_apart from m d ne em ed high = ne (halves_up from m d high (omega arith))

pub next_le : (from m d v : ℕ) → bit_and from m ≢ d → from ≤ v → bit_and v m ≡ d → next_of from d ≤ v / 2
next_le from m d v ne le h =
    let down = halves_down v m d h in
    let bit : min (v % 2) (m % 2) ≡ d % 2 = down.1 in
    elim (cases_lt (from / 2) (v / 2)) [
      | inl further ↦ omega arith
      | inr here ↦
          let same : v / 2 ≡ from / 2 = omega arith in
          elim (cases_lt 0 (m % 2)) [
            | inl named ↦ omega arith
            | inr free ↦ absurd (half_apart from m d ne (omega arith) (omega arith) (ap (λ x. bit_and x (m / 2)) (sym same) ∙ down.0))
          ]
    ]

pub least_up : (from m d h : ℕ) → bit_and from m ≢ d → d % 2 ≤ m % 2 → IsLeastFrom (next_of from d) (m / 2) (d / 2) h
    → IsLeastFrom from m d (h * 2 + d % 2)
least_up from m d h ne fits l = record {
  above = let a : next_of from d ≤ h = l.above in omega arith;
  bits =
      let half : (h * 2 + d % 2) / 2 ≡ h = omega arith in
      let bit : (h * 2 + d % 2) % 2 ≡ d % 2 = omega arith in
      halves_up (h * 2 + d % 2) m d (ap (λ x. bit_and x (m / 2)) half ∙ l.bits) (omega arith);
  least = λ v le e.
      let down = halves_down v m d e in
      let high : h ≤ v / 2 = l.least (v / 2) (next_le from m d v ne le e) down.0 in
      let b : min (v % 2) (m % 2) ≡ d % 2 = down.1 in
      omega arith;
}

pub none_up : (from m d b v : ℕ) → bit_and from m ≢ d → ((w : ℕ) → w < 2 ^ b → next_of from d ≤ w → bit_and w (m / 2) ≡ d / 2 → ⊥)
    → v < 2 * 2 ^ b → from ≤ v → bit_and v m ≡ d → ⊥
none_up from m d b v ne none lt le e = none (v / 2) (omega arith) (next_le from m d v ne le e) (halves_down v m d e).0

pub pow_up : (b : ℕ) → 0 < b → 2 ^ b ≡ 2 * 2 ^ (b - 1)
pow_up b p = ap (λ x. 2 ^ x) (let e : b ≡ 1 + (b - 1) = omega arith in e) ∙ pow-add 2 1 (b - 1)

-- a bit that the mask lacks is never met
pub bit_missing : (v m d : ℕ) → m % 2 < d % 2 → bit_and v m ≡ d → ⊥
bit_missing v m d lt h = let b : min (v % 2) (m % 2) ≡ d % 2 = (halves_down v m d h).1 in omega arith

pub below_from_shift : (n k : ℕ) → n / 2 ^ k ≡ 0 → n < 2 ^ k
below_from_shift n k h =
    let e : n / 2 ^ k * 2 ^ k + n % 2 ^ k ≡ n = shr_split n k in
    let z : n / 2 ^ k * 2 ^ k ≡ 0 * 2 ^ k = ap (λ x. x * 2 ^ k) h in
    let lt : n % 2 ^ k < 2 ^ k = mod_below n (2 ^ k) (pow_pos k) in
    omega arith

pub above_from_shift : (n k : ℕ) → n / 2 ^ k ≢ 0 → 2 ^ k ≤ n
above_from_shift n k h = elim (cases_lt n (2 ^ k)) [ inl p ↦ absurd (h (div-eq_of_lt p)) | inr q ↦ q ]

pub none_at_zero : (from m d v : ℕ) → bit_and from m ≢ d → v < 1 → from ≤ v → bit_and v m ≡ d → ⊥
none_at_zero from m d v ne lt le e =
    let same : from ≡ v = omega arith in
    ne (ap (λ x. bit_and x m) same ∙ e)
