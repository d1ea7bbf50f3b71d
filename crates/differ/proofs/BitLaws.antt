-- What conditions answer of numbers by their high bits.
use Rattle.std.proofs.Common.{◌≡◌, ◌≢◌, ℕ, ◌+◌, ◌-◌, ◌*◌, ◌/◌, ◌%◌, ◌^◌, ◌<◌, ◌≤◌, ◌⊎◌, inl, inr, bit_and, refl, sym, ◌∙◌, ap, arith, not}
use Rattle.std.specs.Int.{bit_at}
use Rattle.std.proofs.lemmas.Nat.{and_shr, and_comm, or_disjoint, and_or_apart, pow_pos, mod_below, le-div, shr_split, shr_high, shr-shr, pow-add}
use Rattle.std.proofs.lemmas.Nat.Bits.{and_pow}
use Rattle.std.proofs.lemmas.Bool.{cases_eq, cases_order, ne_eqb, lt-ltb, le-ltb, le-leb, lt-leb}
use Rattle.profile.specs.declared.conditions.Op.{Op}
use Rattle.profile.specs.declared.conditions.Op.TheVariants.{Ne, Lt, Le, Eq, Ge, Gt, MaskedEq}
use Rattle.profile.specs.Said.{compares}

-- ---- a mask

high_and : (u value datum high rest : ℕ) → u / 2 ^ rest ≡ high → bit_and u value ≡ datum → bit_and high (value / 2 ^ rest) ≡ datum / 2 ^ rest
high_and u value datum high rest h e =
    ap (λ x. bit_and x (value / 2 ^ rest)) (sym h) ∙ sym (and_shr u value rest) ∙ ap (λ x. x / 2 ^ rest) e

masked_false : (u value datum high rest : ℕ) → bit_and high (value / 2 ^ rest) ≢ datum / 2 ^ rest → u / 2 ^ rest ≡ high
    → compares MaskedEq value datum u ≡ compares MaskedEq 0 1 0
masked_false u value datum high rest ne h = ne_eqb (bit_and u value) datum (λ e. ne (high_and u value datum high rest h e))

pub masked_alike : (op : Op) (value datum high rest u v : ℕ) → op ≡ MaskedEq → bit_and high (value / 2 ^ rest) ≢ datum / 2 ^ rest
    → u / 2 ^ rest ≡ high → v / 2 ^ rest ≡ high → compares op value datum u ≡ compares op value datum v
masked_alike op value datum high rest u v is ne hu hv =
    rw is (masked_false u value datum high rest ne hu ∙ sym (masked_false v value datum high rest ne hv))

-- ---- an order

pub below_from_high : (a b k : ℕ) → a / 2 ^ k < b / 2 ^ k → a < b
below_from_high a b k lt =
    elim (cases_order a b) [
      | inl same ↦ absurd (let e : a / 2 ^ k ≡ b / 2 ^ k = ap (λ x. x / 2 ^ k) same in omega arith)
      | inr other ↦ elim other [
        | inl less ↦ less
        | inr more ↦ absurd (
            let split : b / 2 ^ k * 2 ^ k + b % 2 ^ k ≡ b = shr_split b k in
            let le : b / 2 ^ k ≤ a / 2 ^ k = le-div (b / 2 ^ k) a (2 ^ k) (pow_pos k) (omega arith) in
            omega arith)
      ]
    ]

alike_below : (op : Op) (value datum u v : ℕ) → op ≢ MaskedEq → u < value → v < value → compares op value datum u ≡ compares op value datum v
alike_below Ne value datum u v ne a b = ap not (ne_eqb u value (λ e. omega arith) ∙ sym (ne_eqb v value (λ e. omega arith)))
alike_below Lt value datum u v ne a b = lt-ltb u value a ∙ sym (lt-ltb v value b)
alike_below Le value datum u v ne a b = le-leb u value (omega arith) ∙ sym (le-leb v value (omega arith))
alike_below Eq value datum u v ne a b = ne_eqb u value (λ e. omega arith) ∙ sym (ne_eqb v value (λ e. omega arith))
alike_below Ge value datum u v ne a b = lt-leb value u a ∙ sym (lt-leb value v b)
alike_below Gt value datum u v ne a b = le-ltb value u (omega arith) ∙ sym (le-ltb value v (omega arith))
alike_below MaskedEq value datum u v ne a b = absurd (ne refl)

alike_above : (op : Op) (value datum u v : ℕ) → op ≢ MaskedEq → value < u → value < v → compares op value datum u ≡ compares op value datum v
alike_above Ne value datum u v ne a b = ap not (ne_eqb u value (λ e. omega arith) ∙ sym (ne_eqb v value (λ e. omega arith)))
alike_above Lt value datum u v ne a b = le-ltb u value (omega arith) ∙ sym (le-ltb v value (omega arith))
alike_above Le value datum u v ne a b = lt-leb u value a ∙ sym (lt-leb v value b)
alike_above Eq value datum u v ne a b = ne_eqb u value (λ e. omega arith) ∙ sym (ne_eqb v value (λ e. omega arith))
alike_above Ge value datum u v ne a b = le-leb value u (omega arith) ∙ sym (le-leb value v (omega arith))
alike_above Gt value datum u v ne a b = lt-ltb value u a ∙ sym (lt-ltb value v b)
alike_above MaskedEq value datum u v ne a b = absurd (ne refl)

pub order_alike : (op : Op) (value datum high rest u v : ℕ) → op ≢ MaskedEq → value / 2 ^ rest ≢ high
    → u / 2 ^ rest ≡ high → v / 2 ^ rest ≡ high → compares op value datum u ≡ compares op value datum v
order_alike op value datum high rest u v is ne hu hv =
    elim (cases_order (value / 2 ^ rest) high) [
      | inl same ↦ absurd (ne same)
      | inr other ↦ elim other [
        | inl less ↦ alike_above op value datum u v is
            (below_from_high value u rest (omega arith)) (below_from_high value v rest (omega arith))
        | inr more ↦ alike_below op value datum u v is
            (below_from_high u value rest (omega arith)) (below_from_high v value rest (omega arith))
      ]
    ]

-- ---- a bit that a mask has not

pub bit_skipped : (w value place : ℕ) → bit_at value place ≡ 0 → bit_at w place ≡ 0 → bit_and (w + 2 ^ place) value ≡ bit_and w value
bit_skipped w value place no_value no_w =
    let clear : bit_and w (2 ^ place) ≡ 0 = and_pow w place ∙ ap (λ x. x * 2 ^ place) no_w ∙ omega arith in
    let apart : bit_and (2 ^ place) value ≡ 0 =
    and_comm (2 ^ place) value ∙ and_pow value place ∙ ap (λ x. x * 2 ^ place) no_value ∙ omega arith in
    ap (λ x. bit_and x value) (sym (or_disjoint w (2 ^ place) clear)) ∙ and_or_apart value w (2 ^ place) apart

-- a number whose next bit is 1, and the same with 0 there
pub record HasTwin (u high place : ℕ) : Type 0 where
  pub twin : ℕ
  pub is : u ≡ twin + 2 ^ place
  pub begins : twin / 2 ^ place ≡ 2 * high
  pub clear : bit_at twin place ≡ 0

pub twin_of : (u high place : ℕ) → u / 2 ^ place ≡ 2 * high + 1 → HasTwin u high place
twin_of u high place h =
    let low : u % 2 ^ place < 2 ^ place = mod_below u (2 ^ place) (pow_pos place) in
    let split : u / 2 ^ place * 2 ^ place + u % 2 ^ place ≡ u = shr_split u place in
    let first : u / 2 ^ place * 2 ^ place ≡ (2 * high + 1) * 2 ^ place = ap (λ x. x * 2 ^ place) h in
    let begins : (2 * high * 2 ^ place + u % 2 ^ place) / 2 ^ place ≡ 2 * high = shr_high (2 * high) place (u % 2 ^ place) low in
    record {
      twin = 2 * high * 2 ^ place + u % 2 ^ place;
      is = grind arith;
      begins = begins;
      clear = ap (λ x. x % 2) begins ∙ omega arith;
    }

-- the next bit is 0 or 1
pub next_bit : (u high place rest : ℕ) → rest ≡ place + 1 → u / 2 ^ rest ≡ high → (u / 2 ^ place ≡ 2 * high) ⊎ (u / 2 ^ place ≡ 2 * high + 1)
next_bit u high place rest r h =
    let e : u / 2 ^ place / 2 ^ 1 ≡ high = shr-shr u place 1 ∙ ap (λ x. u / 2 ^ x) (sym r) ∙ h in
    elim (cases_eq (u / 2 ^ place) (2 * high)) [ inl even ↦ inl even | inr odd ↦ inr (omega arith) ]

pub next_begins : (u high place rest : ℕ) → rest ≡ place + 1 → u / 2 ^ place / 2 ≡ high → u / 2 ^ rest ≡ high
next_begins u high place rest r h = ap (λ x. u / 2 ^ x) r ∙ sym (shr-shr u place 1) ∙ h

pub div-one : (u : ℕ) → u / 2 ^ 0 ≡ u
div-one u = omega arith

pub bits_left : (rest : ℕ) → 0 < rest → rest ≤ 64 → 2 ^ (64 - (rest - 1)) ≡ 2 * 2 ^ (64 - rest)
bits_left rest pos le = ap (λ x. 2 ^ x) (let e : 64 - (rest - 1) ≡ 1 + (64 - rest) = omega arith in e) ∙ pow-add 2 1 (64 - rest)
