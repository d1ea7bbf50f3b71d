-- Numbers in each notation, and those that a field holds.
use Rattle.std.proofs.Common.{◌≡◌, ℕ, ◌<◌, ◌≤◌, ◌^◌, Bool, true, false, List, refl, ap, sym, arith, inl, inr}
use Rattle.std.specs.Prelude.{◌⊎◌, Some, None}
use Rattle.std.specs.Char.{is_ascii_digit}
use Rattle.std.specs.Str.Parse.{digits_value}
use Rattle.std.specs.Fmt.{digits, decimal}
use Rattle.std.proofs.lemmas.Bool.{cases_lt, lt-ltb, le-ltb}
use Rattle.texts.specs.Digits.{are_digits, has_leading_zero, is_hexadecimal_digit}
use Rattle.texts.specs.Numbers.{number_of}
use Rattle.texts.proofs.Numerals.{are_digits-decimal, are_digits-hexadecimal, decimal_digits, hexadecimal, hexadecimal-digits_value}
use Rattle.texts.proofs.Numerals.{number_of-decimal, number_of-good, number_of-hexadecimal, number_of-large, number_of-zero}
use Rattle.bpf_asm.specs.Faults.{IsBadNumber}
use Rattle.bpf_asm.specs.Forms.{Address, Constant, Decimal, Hexadecimal, Notation, Scratch, base_of, is_digit_of}
use Rattle.bpf_asm.specs.inner.Reading.{within}

pub within_some : (bits n : ℕ) → n < 2 ^ bits → within bits (Some n) ≡ Some n
within_some bits n h = rw (lt-ltb n (2 ^ bits) h) refl

within_none : (bits n : ℕ) → 2 ^ bits ≤ n → within bits (Some n) ≡ None
within_none bits n h = rw (le-ltb n (2 ^ bits) h) refl

-- a number is bad for its field, or is what is written of a number that the field holds
pub data Judged (radix bits : ℕ) (write : ℕ → List ℕ) (ds : List ℕ) : Type 0 where
  Bad : IsBadNumber radix bits ds → within bits (number_of radix ds) ≡ None → Judged radix bits write ds
  Good : (n : ℕ) → n < 2 ^ bits → within bits (number_of radix ds) ≡ Some n → ds ≡ write n → (IsBadNumber radix bits ds → ⊥)
      → Judged radix bits write ds

not_bad : (radix bits : ℕ) (ds : List ℕ) → has_leading_zero ds ≡ false → digits_value radix ds < 2 ^ bits → IsBadNumber radix bits ds → ⊥
not_bad radix bits ds lead small (inl zero_first) = cc
not_bad radix bits ds lead small (inr large) = omega arith

judged : (radix bits : ℕ) (write : ℕ → List ℕ) (ds : List ℕ) → 2 ^ bits ≤ 2 ^ 64
    → (has_leading_zero ds ≡ false → digits_value radix ds < 2 ^ 64 → write (digits_value radix ds) ≡ ds)
    → Judged radix bits write ds
judged radix bits write ds narrow canonical = by_zero (has_leading_zero ds) refl where
  by_size : has_leading_zero ds ≡ false → (digits_value radix ds < 2 ^ 64) ⊎ (2 ^ 64 ≤ digits_value radix ds)
      → (digits_value radix ds < 2 ^ bits) ⊎ (2 ^ bits ≤ digits_value radix ds) → Judged radix bits write ds
  by_size lead (inr large) fits = Bad (inr (omega arith)) (rw (number_of-large radix ds lead large) refl)
  by_size lead (inl small) (inr large) =
      Bad (inr large)
      (rw (number_of-good radix (digits_value radix ds) ds lead refl small) (within_none bits (digits_value radix ds) large))
  by_size lead (inl small) (inl fits) =
      Good (digits_value radix ds) fits
      (rw (number_of-good radix (digits_value radix ds) ds lead refl small) (within_some bits (digits_value radix ds) fits))
      (sym (canonical lead small)) (not_bad radix bits ds lead fits)

  by_zero : (b : Bool) → has_leading_zero ds ≡ b → Judged radix bits write ds
  by_zero true lead = Bad (inl lead) (rw (number_of-zero radix ds lead) refl)
  by_zero false lead = by_size lead (cases_lt (digits_value radix ds) (2 ^ 64)) (cases_lt (digits_value radix ds) (2 ^ bits))

pub judged_decimal : (bits : ℕ) (ds : List ℕ) → 2 ^ bits ≤ 2 ^ 64 → are_digits is_ascii_digit ds ≡ true → Judged 10 bits decimal ds
judged_decimal bits ds narrow d = judged 10 bits decimal ds narrow (decimal_digits ds d)

pub judged_hexadecimal : (bits : ℕ) (ds : List ℕ) → 2 ^ bits ≤ 2 ^ 64 → are_digits is_hexadecimal_digit ds ≡ true
    → Judged 16 bits hexadecimal ds
judged_hexadecimal bits ds narrow d = judged 16 bits hexadecimal ds narrow (hexadecimal-digits_value ds d)

-- Numbers in each notation.

pub judged_number : (notation : Notation) (bits : ℕ) (ds : List ℕ) → 2 ^ bits ≤ 2 ^ 64 → are_digits (is_digit_of notation) ds ≡ true
    → Judged (base_of notation) bits (digits (base_of notation) false) ds
judged_number Address bits ds narrow d = judged_decimal bits ds narrow d
judged_number Scratch bits ds narrow d = judged_decimal bits ds narrow d
judged_number Constant bits ds narrow d = judged_hexadecimal bits ds narrow d
judged_number Decimal bits ds narrow d = judged_decimal bits ds narrow d
judged_number Hexadecimal bits ds narrow d = judged_hexadecimal bits ds narrow d

pub are_digits-digits : (notation : Notation) (n : ℕ) → n < 2 ^ 64
    → are_digits (is_digit_of notation) (digits (base_of notation) false n) ≡ true
are_digits-digits Address n small = are_digits-decimal n small
are_digits-digits Scratch n small = are_digits-decimal n small
are_digits-digits Constant n small = are_digits-hexadecimal n small
are_digits-digits Decimal n small = are_digits-decimal n small
are_digits-digits Hexadecimal n small = are_digits-hexadecimal n small

pub number_of-digits : (notation : Notation) (n : ℕ) → n < 2 ^ 64
    → number_of (base_of notation) (digits (base_of notation) false n) ≡ Some n
number_of-digits Address n small = number_of-decimal n small
number_of-digits Scratch n small = number_of-decimal n small
number_of-digits Constant n small = number_of-hexadecimal n small
number_of-digits Decimal n small = number_of-decimal n small
number_of-digits Hexadecimal n small = number_of-hexadecimal n small
