-- Where the beginning of a call name ends, and what is printed of it.
use Rattle.std.proofs.Common.{◌≡◌, ◌≢◌, ℕ, zero, suc, ◌<◌, ◌≤◌, ◌==◌, List, [], ◌∷◌, ◌++◌, length, true, cond, ◌||◌, nat_lt, nat_le, inl}
use Rattle.std.proofs.Common.{inr, refl, sym, ap, ◌∙◌, arith, slice_index, slice_range, ◌-◌, take}
use Rattle.std.specs.List.{flat_map}
use Rattle.std.specs.Char.{encode_utf8}
use Rattle.std.specs.Str.{IsCharBoundary, IsUtf8, chars}
use Rattle.std.proofs.lemmas.Str.{chars_past_char}
use Rattle.std.proofs.lemmas.Bool.{cases_Bool}
use Rattle.std.proofs.lemmas.Bool.Decides.{nat_tests}
use Rattle.profile_json.specs.CallName.{is_boundary, boundary_up_to, short_name, printed_char, printed}

tells : (i n b : ℕ) → cond (nat_lt i n) (nat_lt b 128 || nat_le 192 b) (i == n) ≡ true → (i ≤ n) × (i < n → 128 ≤ b → 192 ≤ b)
tells i n b h = (grind (arith, nat_tests), grind (arith, nat_tests))

told : (i n b : ℕ) → i ≤ n → (i < n → 128 ≤ b → 192 ≤ b) → cond (nat_lt i n) (nat_lt b 128 || nat_le 192 b) (i == n) ≡ true
told i n b within start = grind (arith, nat_tests)

boundary_found : (n : ℕ) (name : List ℕ) (end : ℕ) → end ≤ n → IsCharBoundary name end
    → ((i : ℕ) → end < i → i ≤ n → ¬ IsCharBoundary name i) → boundary_up_to n name ≡ end
boundary_found zero name end h b near = omega arith
boundary_found (suc n) name end h b near =
    elim (cases_Bool (is_boundary name (suc n))) [
      | inl here ↦
          let at : IsCharBoundary name (suc n) = tells (suc n) (length name) (slice_index name (suc n)) here in
          let top : end < suc n → ⊥ = λ (below : end < suc n). near (suc n) below (omega arith) at in
          let same : suc n ≡ end = omega (arith, top) in
          rw here same
      | inr not_here ↦
          let other : end ≢ suc n = λ (same : end ≡ suc n).
          (let yes-here : is_boundary name end ≡ true =
          told end (length name) (slice_index name end) b.0 b.1 in let here : is_boundary name (suc n) ≡ true =
          ap (is_boundary name) (sym same) ∙ yes-here in cc) in
          rw not_here (boundary_found n name end (omega arith) b (λ i over up. near i over (omega arith)))
    ]

pub short_name-is : (name : List ℕ) (end : ℕ) → end ≤ 64 → IsCharBoundary name end
    → ((i : ℕ) → end < i → i ≤ 64 → ¬ IsCharBoundary name i) → short_name name ≡ take end name
unfolding short_name
short_name-is name end h b near = ap (λ n. take n name) (boundary_found 64 name end h b near)

pub front : (xs : List ℕ) (n : ℕ) → slice_range xs 0 n ≡ take n xs
front xs n = let same : n - 0 ≡ n = omega arith in ap (λ m. take m xs) same

-- ---- printing

pub printed_past_char : (name rest : List ℕ) (c : ℕ) → IsUtf8 name → name ≡ encode_utf8 c ++ rest
    → printed name ≡ printed_char c ++ printed rest
printed_past_char name rest c utf8 split = ap (flat_map printed_char) (chars_past_char name rest c utf8 split)

pub printed_none : (name : List ℕ) → length name ≡ 0 → printed name ≡ []
unfolding chars
printed_none [] none = refl
printed_none (b ∷ bs) none = absurd (omega (arith, none))
