-- Numbers as they are written, and read again.
use Rattle.std.proofs.Common.{◌≡◌, ◌≢◌, ℕ, zero, suc, ◌+◌, ◌*◌, ◌/◌, ◌%◌, ◌^◌, ◌<◌, ◌≤◌, Bool, true, false, cond, List, [], ◌∷◌}
use Rattle.std.proofs.Common.{◌++◌, length, get_or, refl, ap, sym, ◌∙◌, arith, inl, inr}
use Rattle.std.specs.Prelude.{◌==◌, ◌⊎◌, nat_lt, Some, None}
use Rattle.std.specs.List.{list_all}
use Rattle.std.specs.Char.{is_ascii_digit, digit_value}
use Rattle.std.specs.Str.Parse.{AllDigits, IsNumeral, digits_value, digits_value_after}
use Rattle.std.specs.Fmt.{digits, digits_onto, digit_glyph, decimal}
use Rattle.std.proofs.lemmas.Bool.{and_parts, cases_lt, eq-eqb, ne_eqb, lt-ltb, le-ltb}
use Rattle.std.proofs.lemmas.Bool.Decides.{nat_tests}
use Rattle.std.proofs.lemmas.List.{append_assoc, append-nil}
use Rattle.std.proofs.lemmas.Str.Parse.{numerals_by_value, tells_digits}
use Rattle.std.proofs.lemmas.Fmt.{decimal-digits_value, decimal_is_IsNumeral, decimal_digit, first_decimal, digits_is_IsNumeral}
use Rattle.std.proofs.lemmas.Fmt.{hex_one_digit}
use Rattle.texts.specs.Digits.{are_digits, has_leading_zero, is_hexadecimal_digit}
use Rattle.texts.specs.Numbers.{number_of}

-- Digits have a value below the radix.

decimal_digit_value : (c : ℕ) → is_ascii_digit c ≡ true → digit_value c < 10
decimal_digit_value c h = grind (arith, nat_tests)

hexadecimal_digit_value : (c : ℕ) → is_hexadecimal_digit c ≡ true → digit_value c < 16
hexadecimal_digit_value c h = grind (arith, nat_tests)

all_decimal : (ds : List ℕ) → list_all is_ascii_digit ds ≡ true → AllDigits 10 ds
all_decimal [] h = tt
all_decimal (c ∷ cs) h =
    let parts = and_parts (is_ascii_digit c) (list_all is_ascii_digit cs) h in
    (decimal_digit_value c parts.0, all_decimal cs parts.1)

all_hexadecimal : (ds : List ℕ) → list_all is_hexadecimal_digit ds ≡ true → AllDigits 16 ds
all_hexadecimal [] h = tt
all_hexadecimal (c ∷ cs) h =
    let parts = and_parts (is_hexadecimal_digit c) (list_all is_hexadecimal_digit cs) h in
    (hexadecimal_digit_value c parts.0, all_hexadecimal cs parts.1)

some_digits : (is_digit : ℕ → Bool) (ds : List ℕ) → are_digits is_digit ds ≡ true → (0 < length ds) × (list_all is_digit ds ≡ true)
some_digits is_digit [] h = cc
some_digits is_digit (c ∷ cs) h = (omega arith, h)

pub numeral_decimal : (ds : List ℕ) → are_digits is_ascii_digit ds ≡ true → IsNumeral 10 ds
numeral_decimal ds h = let parts = some_digits is_ascii_digit ds h in (parts.0, all_decimal ds parts.1)

pub numeral_hexadecimal : (ds : List ℕ) → are_digits is_hexadecimal_digit ds ≡ true → IsNumeral 16 ds
numeral_hexadecimal ds h = let parts = some_digits is_hexadecimal_digit ds h in (parts.0, all_hexadecimal ds parts.1)

pub are_digits-some : (is_digit : ℕ → Bool) (ds : List ℕ) → (length ds == 0) ≡ false → list_all is_digit ds ≡ are_digits is_digit ds
are_digits-some is_digit [] h = cc
are_digits-some is_digit (c ∷ cs) h = refl

are_digits-from_all : (is_digit : ℕ → Bool) (ds : List ℕ) → 0 < length ds → list_all is_digit ds ≡ true → are_digits is_digit ds ≡ true
are_digits-from_all is_digit [] some h = absurd (omega arith)
are_digits-from_all is_digit (c ∷ cs) some h = h

-- Hexadecimal, digit by digit.

-- with small letters
abbrev pub hexadecimal : ℕ → List ℕ
hexadecimal n = digits 16 false n

abbrev spell : ℕ → ℕ → List ℕ → List ℕ
spell k n acc = digits_onto k 16 false n acc

abbrev last_digit : ℕ → ℕ
last_digit n = digit_glyph false (n % 16)

spelled : (n : ℕ) → spell 64 n [] ≡ hexadecimal n
unfolding digits
spelled n = refl

spell_last : (k n : ℕ) (acc : List ℕ) → n < 16 → spell (suc k) n acc ≡ last_digit n ∷ acc
spell_last k n acc h = ap (λ t. cond t (last_digit n ∷ acc) (spell k (n / 16) (last_digit n ∷ acc))) (eq-eqb (n / 16) 0 (omega arith))

spell_next : (k n : ℕ) (acc : List ℕ) → 16 ≤ n → spell (suc k) n acc ≡ spell k (n / 16) (last_digit n ∷ acc)
spell_next k n acc h = ap (λ t. cond t (last_digit n ∷ acc) (spell k (n / 16) (last_digit n ∷ acc))) (ne_eqb (n / 16) 0 (λ e. omega arith))

spell-append : (k n : ℕ) (acc : List ℕ) → spell k n acc ≡ spell k n [] ++ acc
spell-append zero n acc = refl
spell-append (suc k) n acc = elim (cases_lt n 16) [
  | inl l ↦ spell_last k n acc l ∙ ap (λ x. x ++ acc) (sym (spell_last k n [] l))
  | inr l ↦
      spell_next k n acc l ∙ spell-append k (n / 16) (last_digit n ∷ acc)
      ∙ sym (append_assoc (spell k (n / 16) []) (last_digit n ∷ []) acc)
      ∙ ap (λ x. x ++ acc) (sym (spell_next k n [] l ∙ spell-append k (n / 16) (last_digit n ∷ [])))
]

-- how many digits there is room for does not matter once it is enough
spell_enough : (j k n : ℕ) (acc : List ℕ) → n < 16 ^ suc j → n < 16 ^ suc k → spell (suc j) n acc ≡ spell (suc k) n acc
spell_enough zero k n acc p q = spell_last zero n acc (omega arith) ∙ sym (spell_last k n acc (omega arith))
spell_enough (suc j) zero n acc p q = spell_last (suc j) n acc (omega arith) ∙ sym (spell_last zero n acc (omega arith))
spell_enough (suc j) (suc k) n acc p q = elim (cases_lt n 16) [
  | inl l ↦ spell_last (suc j) n acc l ∙ sym (spell_last (suc k) n acc l)
  | inr l ↦
      spell_next (suc j) n acc l ∙ spell_enough j k (n / 16) (last_digit n ∷ acc) (omega arith) (omega arith)
      ∙ sym (spell_next (suc k) n acc l)
]

hexadecimal_step : (n : ℕ) → 16 ≤ n → n < 2 ^ 64 → hexadecimal n ≡ hexadecimal (n / 16) ++ last_digit n ∷ []
hexadecimal_step n h small =
    sym (spelled n) ∙ spell_next 63 n [] h ∙ spell_enough 62 63 (n / 16) (last_digit n ∷ []) (omega arith) (omega arith)
    ∙ spell-append 64 (n / 16) (last_digit n ∷ []) ∙ ap (λ x. x ++ last_digit n ∷ []) (spelled (n / 16))

-- a small digit is written as itself
glyph_of_value : (c : ℕ) → is_hexadecimal_digit c ≡ true → digit_glyph false (digit_value c) ≡ c
glyph_of_value c h = grind (arith, nat_tests)

glyph_is_digit : (d : ℕ) → d < 16 → is_hexadecimal_digit (digit_glyph false d) ≡ true
glyph_is_digit d h = grind (arith, nat_tests)

glyph_zero : (d : ℕ) → d < 16 → digit_glyph false d ≡ 48 → d ≡ 0
glyph_zero d h e = grind (arith, nat_tests)

le_value_after : (n : ℕ) (ds : List ℕ) → n ≤ digits_value_after 16 n ds
le_value_after n [] = omega arith
le_value_after n (c ∷ cs) = omega (arith, le_value_after (n * 16 + digit_value c) cs)

hexadecimal_value_after : (n : ℕ) (ds : List ℕ) → 0 < n → list_all is_hexadecimal_digit ds ≡ true
    → digits_value_after 16 n ds < 2 ^ 64 → hexadecimal (digits_value_after 16 n ds) ≡ hexadecimal n ++ ds
hexadecimal_value_after n [] some d small = sym (append-nil (hexadecimal n))
hexadecimal_value_after n (c ∷ cs) some d small =
    let parts = and_parts (is_hexadecimal_digit c) (list_all is_hexadecimal_digit cs) d in
    let below = hexadecimal_digit_value c parts.0 in
    let m : ℕ = n * 16 + digit_value c in
    let front : m / 16 ≡ n = omega arith in
    let end : m % 16 ≡ digit_value c = omega arith in
    let glyph : last_digit m ≡ c = ap (digit_glyph false) end ∙ glyph_of_value c parts.0 in
    hexadecimal_value_after m cs (omega arith) parts.1 small
    ∙ ap (λ x. x ++ cs) (hexadecimal_step m (omega arith) (omega (arith, le_value_after m cs))
    ∙ (λ i. hexadecimal (front i) ++ glyph i ∷ []))
    ∙ append_assoc (hexadecimal n) (c ∷ []) cs

-- digits with no leading zero are what is written of their value
pub hexadecimal-digits_value : (ds : List ℕ) → are_digits is_hexadecimal_digit ds ≡ true → has_leading_zero ds ≡ false
    → digits_value 16 ds < 2 ^ 64 → hexadecimal (digits_value 16 ds) ≡ ds
hexadecimal-digits_value [] d lead small = cc
hexadecimal-digits_value (c ∷ []) d lead small =
    let parts = and_parts (is_hexadecimal_digit c) true d in
    let below = hexadecimal_digit_value c parts.0 in
    let is : 0 * 16 + digit_value c ≡ digit_value c = omega arith in
    ap hexadecimal is ∙ hex_one_digit false (digit_value c) below ∙ ap (λ x. x ∷ []) (glyph_of_value c parts.0)
hexadecimal-digits_value (c ∷ e ∷ cs) d lead small =
    let parts = and_parts (is_hexadecimal_digit c) (list_all is_hexadecimal_digit (e ∷ cs)) d in
    let below = hexadecimal_digit_value c parts.0 in
    let is : 0 * 16 + digit_value c ≡ digit_value c = omega arith in
    let long : nat_lt 1 (suc (suc (length cs))) ≡ true = lt-ltb 1 (suc (suc (length cs))) (omega arith) in
    let other : (c == 48) ≡ false = rw long at lead in
    let first : digit_value c ≢ 0 = λ z. nonzero c parts.0 other z in
    hexadecimal_value_after (0 * 16 + digit_value c) (e ∷ cs) (omega (arith, positive (digit_value c) first)) parts.1 small
    ∙ ap (λ x. x ++ e ∷ cs) (ap hexadecimal is ∙ hex_one_digit false (digit_value c) below ∙ ap (λ x. x ∷ []) (glyph_of_value c parts.0))
  where
    nonzero : (x : ℕ) → is_hexadecimal_digit x ≡ true → (x == 48) ≡ false → digit_value x ≡ 0 → ⊥
    nonzero x h o z = grind (arith, nat_tests)

    positive : (x : ℕ) → x ≢ 0 → 0 < x
    positive x h = omega arith

pub decimal_digits : (ds : List ℕ) → are_digits is_ascii_digit ds ≡ true → has_leading_zero ds ≡ false
    → digits_value 10 ds < 2 ^ 64 → decimal (digits_value 10 ds) ≡ ds
decimal_digits ds d lead small =
    let numeral = numeral_decimal ds d in
    let alone : get_or ds 0 0 ≡ 48 → length ds ≡ 1 = λ z. single ds numeral.0 lead z in
    decimal-digits_value (numerals_by_value _ tells_digits) ds numeral.1 numeral.0 alone (omega arith)
  where
    single : (xs : List ℕ) → 0 < length xs → has_leading_zero xs ≡ false → get_or xs 0 0 ≡ 48 → length xs ≡ 1
    single xs some l z = grind (arith, nat_tests)

-- What is written of a number is digits with no leading zero.

all_spelled : (k n : ℕ) (acc : List ℕ) → list_all is_hexadecimal_digit acc ≡ true → list_all is_hexadecimal_digit (spell k n acc) ≡ true
all_spelled zero n acc h = h
all_spelled (suc k) n acc h =
    let more : list_all is_hexadecimal_digit (last_digit n ∷ acc) ≡ true = rw (glyph_is_digit (n % 16) (omega arith)) h in
    elim (cases_lt n 16) [
      | inl l ↦ rw (spell_last k n acc l) more
      | inr l ↦ rw (spell_next k n acc l) (all_spelled k (n / 16) (last_digit n ∷ acc) more)
    ]

first_spelled : (k n : ℕ) (acc : List ℕ) → 0 < n → n < 16 ^ suc k → get_or (spell (suc k) n acc) 0 0 ≢ 48
first_spelled zero n acc some fits =
    rw (spell_last zero n acc (omega arith)) (λ e. omega (arith, glyph_zero (n % 16) (omega arith) e))
first_spelled (suc k) n acc some fits = elim (cases_lt n 16) [
  | inl l ↦ rw (spell_last (suc k) n acc l) (λ e. omega (arith, glyph_zero (n % 16) (omega arith) e))
  | inr l ↦ rw (spell_next (suc k) n acc l) (first_spelled k (n / 16) (last_digit n ∷ acc) (omega arith) (omega arith))
]

is_numeral : (n : ℕ) → n < 2 ^ 64 → IsNumeral 16 (hexadecimal n) × (digits_value 16 (hexadecimal n) ≡ n)
is_numeral n small = digits_is_IsNumeral 16 false (omega arith) (omega arith) n (omega arith)

pub are_digits-hexadecimal : (n : ℕ) → n < 2 ^ 64 → are_digits is_hexadecimal_digit (hexadecimal n) ≡ true
are_digits-hexadecimal n small =
    are_digits-from_all is_hexadecimal_digit (hexadecimal n) (is_numeral n small).0.0 (rw (← spelled n) (all_spelled 64 n [] refl))

decimal_from_value : (c : ℕ) → digit_value c < 10 → is_ascii_digit c ≡ true
decimal_from_value c h = grind (arith, nat_tests)

all_from_digits : (ds : List ℕ) → AllDigits 10 ds → list_all is_ascii_digit ds ≡ true
all_from_digits [] h = refl
all_from_digits (c ∷ cs) h = rw (decimal_from_value c h.0) (all_from_digits cs h.1)

pub are_digits-decimal : (n : ℕ) → n < 2 ^ 64 → are_digits is_ascii_digit (decimal n) ≡ true
are_digits-decimal n small =
    let numeral = (decimal_is_IsNumeral n (omega arith)).0 in
    are_digits-from_all is_ascii_digit (decimal n) numeral.0 (all_from_digits (decimal n) numeral.1)

-- one digit, or the first is another than 0
no_leading_zero : (ds : List ℕ) → (length ds ≡ 1) ⊎ (get_or ds 0 0 ≢ 48) → has_leading_zero ds ≡ false
no_leading_zero ds (inl one) = grind (arith, nat_tests)
no_leading_zero ds (inr other) = grind (arith, nat_tests)

no_zero-decimal : (n : ℕ) → n < 2 ^ 64 → has_leading_zero (decimal n) ≡ false
no_zero-decimal n small = elim (cases_lt n 10) [
  | inl l ↦ no_leading_zero (decimal n) (inl (ap length (decimal_digit n l)))
  | inr l ↦
      let first = first_decimal n (omega arith) (omega arith) in
      no_leading_zero (decimal n) (inr (λ e. omega arith))
]

no_zero-hexadecimal : (n : ℕ) → n < 2 ^ 64 → has_leading_zero (hexadecimal n) ≡ false
no_zero-hexadecimal n small = elim (cases_lt n 16) [
  | inl l ↦ no_leading_zero (hexadecimal n) (inl (ap length (hex_one_digit false n l)))
  | inr l ↦ no_leading_zero (hexadecimal n) (inr (rw (← spelled n) (first_spelled 63 n [] (omega arith) (omega arith))))
]

-- The number of digits.

pub number_of-good : (radix n : ℕ) (ds : List ℕ) → has_leading_zero ds ≡ false → digits_value radix ds ≡ n → n < 2 ^ 64
    → number_of radix ds ≡ Some n
unfolding number_of
number_of-good radix n ds lead value small =
    let fits : nat_lt (digits_value radix ds) (2 ^ 64) ≡ true = lt-ltb (digits_value radix ds) (2 ^ 64) (omega arith) in
    rw (lead, fits, value) refl

pub number_of-zero : (radix : ℕ) (ds : List ℕ) → has_leading_zero ds ≡ true → number_of radix ds ≡ None
unfolding number_of
number_of-zero radix ds lead = rw lead refl

pub number_of-large : (radix : ℕ) (ds : List ℕ) → has_leading_zero ds ≡ false → 2 ^ 64 ≤ digits_value radix ds → number_of radix ds ≡ None
unfolding number_of
number_of-large radix ds lead large =
    let over : nat_lt (digits_value radix ds) (2 ^ 64) ≡ false = le-ltb (digits_value radix ds) (2 ^ 64) large in
    rw (lead, over) refl

pub number_of-decimal : (n : ℕ) → n < 2 ^ 64 → number_of 10 (decimal n) ≡ Some n
number_of-decimal n small = number_of-good 10 n (decimal n) (no_zero-decimal n small) (decimal_is_IsNumeral n (omega arith)).1 small

pub number_of-hexadecimal : (n : ℕ) → n < 2 ^ 64 → number_of 16 (hexadecimal n) ≡ Some n
number_of-hexadecimal n small = number_of-good 16 n (hexadecimal n) (no_zero-hexadecimal n small) (is_numeral n small).1 small
