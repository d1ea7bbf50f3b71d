-- A text is read as a number exactly where it is one.
use Rattle.std.proofs.Common.{◌≡◌, ℕ, ◌<◌, ◌^◌, Bool, true, false, cond, List, refl, ap, sym, ◌∙◌, subst}
use Rattle.std.specs.Prelude.{Option, Some, None, nat_lt}
use Rattle.std.specs.Char.{is_ascii_digit}
use Rattle.std.specs.Str.Parse.{digits_value}
use Rattle.std.proofs.lemmas.Bool.{cond-true, lt-ltb, ltb-true}
use Rattle.std.proofs.lemmas.Option.{same_Some}
use Rattle.texts.specs.Digits.{are_digits, has_leading_zero, is_hexadecimal_digit}
use Rattle.texts.specs.Numbers.{IsDecimal, IsHexadecimal, decimal_at, hexadecimal_at, number_of}
use Rattle.texts.proofs.Options.{tested}

-- a number that is below a bound
pub sized : (bound v n : ℕ) → cond {A = Option ℕ} (nat_lt v bound) (Some v) None ≡ Some n → (v ≡ n) × (n < bound)
sized bound v n h =
    let t = tested (nat_lt v bound) (Some v) n h in
    let same : v ≡ n = same_Some v n t.1 in
    (same, subst (λ m. m < bound) same (ltb-true v bound t.0))

pub unsized : (bound v n : ℕ) → v ≡ n → n < bound → cond {A = Option ℕ} (nat_lt v bound) (Some v) None ≡ Some n
unsized bound v n same small =
    cond-true (nat_lt v bound) (Some v) None (lt-ltb v bound (subst (λ m. m < bound) (sym same) small)) ∙ ap Some same

number_of-some : (radix n : ℕ) (ds : List ℕ) → number_of radix ds ≡ Some n
    → (has_leading_zero ds ≡ false) × (digits_value radix ds ≡ n) × (n < 2 ^ 64)
unfolding number_of
number_of-some radix n ds h = by_zero (has_leading_zero ds) h where
  by_zero : (z : Bool) → cond {A = Option ℕ} z None (cond (nat_lt (digits_value radix ds) (2 ^ 64)) (Some (digits_value radix ds)) None) ≡ Some n
      → (z ≡ false) × (digits_value radix ds ≡ n) × (n < 2 ^ 64)
  by_zero true g = absurd (cc)
  by_zero false g = let s = sized (2 ^ 64) (digits_value radix ds) n g in (refl, s.0, s.1)

number_of-is : (radix n : ℕ) (ds : List ℕ) → has_leading_zero ds ≡ false → digits_value radix ds ≡ n → n < 2 ^ 64
    → number_of radix ds ≡ Some n
unfolding number_of
number_of-is radix n ds lead value small = rw lead (unsized (2 ^ 64) (digits_value radix ds) n value small)

pub decimal_at-some : (text : List ℕ) (n : ℕ) → decimal_at text ≡ Some n → (n < 2 ^ 64) × IsDecimal text n
unfolding decimal_at
decimal_at-some text n h =
    let t = tested (are_digits is_ascii_digit text) (number_of 10 text) n h in
    let v = number_of-some 10 n text t.1 in
    (v.2, record { digits = t.0; shortest = v.0; value = v.1 })

pub decimal_at-is : (text : List ℕ) (n : ℕ) → n < 2 ^ 64 → IsDecimal text n → decimal_at text ≡ Some n
unfolding decimal_at
decimal_at-is text n small w = rw w.digits (number_of-is 10 n text w.shortest w.value small)

pub hexadecimal_at-some : (text : List ℕ) (n : ℕ) → hexadecimal_at text ≡ Some n → (n < 2 ^ 64) × IsHexadecimal text n
unfolding hexadecimal_at
hexadecimal_at-some text n h =
    let t = tested (are_digits is_hexadecimal_digit text) (number_of 16 text) n h in
    let v = number_of-some 16 n text t.1 in
    (v.2, record { digits = t.0; shortest = v.0; value = v.1 })

pub hexadecimal_at-is : (text : List ℕ) (n : ℕ) → n < 2 ^ 64 → IsHexadecimal text n → hexadecimal_at text ≡ Some n
unfolding hexadecimal_at
hexadecimal_at-is text n small w = rw w.digits (number_of-is 16 n text w.shortest w.value small)
