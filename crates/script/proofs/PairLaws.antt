-- Digits in pairs, and the bytes that they spell.
use Rattle.std.proofs.Common.{◌≡◌, ℕ, ◌+◌, ◌*◌, ◌/◌, ◌%◌, ◌-◌, ◌≤◌, true, List, [], ◌∷◌, ◌++◌, length, get_or, take, drop, refl, ap}
use Rattle.std.proofs.Common.{sym, ◌∙◌, arith, append_assoc, length-drop}
use Rattle.std.specs.Prelude.{◌==◌}
use Rattle.std.specs.List.{list_all}
use Rattle.std.specs.Char.{digit_value}
use Rattle.std.proofs.lemmas.Bool.{and_from, and_parts, eq-eqb, eqb-true}
use Rattle.std.proofs.lemmas.List.{take_all}
use Rattle.texts.specs.Digits.{are_digits, is_hexadecimal_digit}
use Rattle.script.specs.Numbers.{AreBytes}
use Rattle.script.specs.Pairs.{is_paired, spelled_bytes}

pub length-spelled : (ds : List ℕ) → length ds / 2 ≡ length (spelled_bytes ds)
length-spelled [] = refl
length-spelled (a ∷ []) = omega arith
length-spelled (a ∷ b ∷ ds) = omega (arith, length-spelled ds)

-- the first pair
abbrev pub first_byte : List ℕ → ℕ
first_byte ds = digit_value (get_or ds 0 0) * 16 + digit_value (get_or ds 1 0)

pub spelled-pair : (ds : List ℕ) → 2 ≤ length ds → spelled_bytes ds ≡ first_byte ds ∷ spelled_bytes (drop 2 ds)
spelled-pair [] h = absurd (omega arith)
spelled-pair (a ∷ []) h = absurd (omega arith)
spelled-pair (a ∷ b ∷ ds) h =
    let sum : 16 * digit_value a + digit_value b ≡ digit_value a * 16 + digit_value b = omega arith in ap (λ n. n ∷ spelled_bytes ds) sum

-- one byte more
pub pair-more : (items new left text : List ℕ) (high low : ℕ) → 2 ≤ length left → high ≡ digit_value (get_or left 0 0)
    → low ≡ digit_value (get_or left 1 0) → new ≡ items ++ (high * 16 + low) ∷ [] → items ++ spelled_bytes left ≡ text
    → new ++ spelled_bytes (drop 2 left) ≡ text
pair-more items new left text high low two h l pushed before =
    let byte : high * 16 + low ≡ first_byte left = λ i. h i * 16 + l i in
    ap (λ t. t ++ spelled_bytes (drop 2 left)) pushed
    ∙ append_assoc items ((high * 16 + low) ∷ []) (spelled_bytes (drop 2 left))
    ∙ ap (λ b. items ++ (b ∷ spelled_bytes (drop 2 left))) byte
    ∙ ap (λ t. items ++ t) (sym (spelled-pair left two)) ∙ before

pub length-pair : (left : List ℕ) → 2 ≤ length left → length (spelled_bytes left) ≡ length (spelled_bytes (drop 2 left)) + 1
length-pair left two = omega (arith, ap length (spelled-pair left two))

pub digits-pair : (ds : List ℕ) → 2 ≤ length ds → list_all is_hexadecimal_digit ds ≡ true → list_all is_hexadecimal_digit (drop 2 ds) ≡ true
digits-pair [] h k = absurd (omega arith)
digits-pair (a ∷ []) h k = absurd (omega arith)
digits-pair (a ∷ b ∷ ds) h k =
    let first = and_parts (is_hexadecimal_digit a) (list_all is_hexadecimal_digit (b ∷ ds)) k in
    (and_parts (is_hexadecimal_digit b) (list_all is_hexadecimal_digit ds) first.1).1

pub rest-pair : (ds : List ℕ) → take (length ds - 2) (drop 2 ds) ≡ drop 2 ds
rest-pair ds = take_all (length ds - 2) (drop 2 ds) (omega (arith, length-drop 2 ds))

all_digits : (ds : List ℕ) → are_digits is_hexadecimal_digit ds ≡ true → list_all is_hexadecimal_digit ds ≡ true
all_digits [] h = refl
all_digits (d ∷ ds) h = h

pub digits-paired : (ds : List ℕ) → is_paired ds ≡ true → list_all is_hexadecimal_digit ds ≡ true
unfolding is_paired
digits-paired ds h = all_digits ds (and_parts (length ds % 2 == 0) (are_digits is_hexadecimal_digit ds) h).1

bytes_spelled : (ds : List ℕ) → length ds % 2 ≡ 0 → list_all is_hexadecimal_digit ds ≡ true → AreBytes ds (spelled_bytes ds)
bytes_spelled [] even h = tt
bytes_spelled (a ∷ []) even h = absurd (omega arith)
bytes_spelled (a ∷ b ∷ ds) even h =
    let first = and_parts (is_hexadecimal_digit a) (list_all is_hexadecimal_digit (b ∷ ds)) h in
    let second = and_parts (is_hexadecimal_digit b) (list_all is_hexadecimal_digit ds) first.1 in
    (first.0, second.0, refl, bytes_spelled ds (omega arith) second.1)

spelled_from_bytes : (ds bytes : List ℕ) → AreBytes ds bytes
    → (bytes ≡ spelled_bytes ds) × (length ds % 2 ≡ 0) × (list_all is_hexadecimal_digit ds ≡ true)
spelled_from_bytes [] [] h = (refl, refl, refl)
spelled_from_bytes [] (b ∷ bytes) h = absurd h
spelled_from_bytes (x ∷ []) [] h = absurd h
spelled_from_bytes (x ∷ []) (b ∷ bytes) h = absurd h
spelled_from_bytes (x ∷ y ∷ ds) [] h = absurd h
spelled_from_bytes (x ∷ y ∷ ds) (b ∷ bytes) h =
    let more = spelled_from_bytes ds bytes h.3 in (
      (λ i. h.2 i ∷ more.0 i),
      omega (arith, more.1),
      and_from (is_hexadecimal_digit x) (list_all is_hexadecimal_digit (y ∷ ds)) h.0
          (and_from (is_hexadecimal_digit y) (list_all is_hexadecimal_digit ds) h.1 more.2),
    )

-- paired digits spell their bytes, one at least
pub paired-bytes : (ds : List ℕ) → is_paired ds ≡ true → AreBytes ds (spelled_bytes ds)
unfolding is_paired
paired-bytes ds h =
    let parts = and_parts (length ds % 2 == 0) (are_digits is_hexadecimal_digit ds) h in
    bytes_spelled ds (eqb-true (length ds % 2) 0 parts.0) (all_digits ds parts.1)

pub bytes-paired : (ds : List ℕ) (b : ℕ) (bytes : List ℕ) → AreBytes ds (b ∷ bytes) → (is_paired ds ≡ true) × (b ∷ bytes ≡ spelled_bytes ds)
unfolding is_paired
bytes-paired [] b bytes h = absurd h
bytes-paired (x ∷ ds) b bytes h =
    let s = spelled_from_bytes (x ∷ ds) (b ∷ bytes) h in
    (and_from (length (x ∷ ds) % 2 == 0) (are_digits is_hexadecimal_digit (x ∷ ds)) (eq-eqb (length (x ∷ ds) % 2) 0 s.1) s.2, s.0)

-- there is a byte
pub spelled-some : (ds : List ℕ) → is_paired ds ≡ true → (b : ℕ) × (bytes : List ℕ) × (spelled_bytes ds ≡ b ∷ bytes)
unfolding is_paired
spelled-some [] h = absurd (cc)
spelled-some (a ∷ []) h = absurd (cc)
spelled-some (a ∷ b ∷ ds) h = (16 * digit_value a + digit_value b, spelled_bytes ds, refl)
