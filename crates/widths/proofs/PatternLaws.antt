-- The patterns of the numbers above a value and below it.
use Rattle.std.proofs.Common.{◌≡◌, ℕ, zero, suc, ◌+◌, ◌-◌, ◌/◌, ◌%◌, ◌^◌, ◌<◌, ◌≤◌, ◌==◌, ◌⊎◌, Bool, true, false, inl, inr, List, [], ◌∷◌, ◌++◌, length, length-append, refl, sym, ◌∙◌, ap, subst, arith}
use Rattle.std.specs.Prelude.{◌↔◌, Option, Some, None, if◌then◌else◌, bit_and}
use Rattle.std.specs.Option.{option_to_list}
use Rattle.std.specs.List.{All}
use Rattle.std.proofs.lemmas.Bool.{cases_Bool, cases_eq, cases_lt}
use Rattle.std.proofs.lemmas.Bool.Decides.{Decides-eqb}
use Rattle.std.proofs.lemmas.List.Elements.{All-nil, All-cons, All-append}
use Rattle.std.proofs.lemmas.Nat.{pow_pos, mod_below, pow_below}
use Rattle.widths.specs.declared.narrowing.patterns.Pattern.{Pattern}
use Rattle.widths.specs.Narrowed.{Has}
use Rattle.widths.specs.Patterns.{HasPattern, high, from_place, turn_at, turns_below, turns}
use Rattle.widths.proofs.TurnLaws.{Turns, turn_below, turn_above, has_raised, has_lowered}
use Rattle.widths.proofs.HasLaws.{Has-left, Has-right, Has-cases, Has-nil, Has-one, one-Has}

-- w turns up from v at a place, if that is asked for, or down
abbrev Found : Bool → Bool → ℕ → ℕ → ℕ → Type 0
Found up down v w i = ((up ≡ true) × Turns v w i) ⊎ ((down ≡ true) × Turns w v i)

-- w is above v, if that is asked for, or below
abbrev pub Beyond : Bool → Bool → ℕ → ℕ → Type 0
Beyond up down v w = ((up ≡ true) × (v < w)) ⊎ ((down ≡ true) × (w < v))

at_even : (b v : ℕ) (up down : Bool) (i : ℕ) → (v / 2 ^ i % 2 == 0) ≡ true
    → turn_at b v up down i ≡ (if up then Some (from_place b i (high v i + 2 ^ i)) else None)
at_even b v up down i h = rw h refl

at_odd : (b v : ℕ) (up down : Bool) (i : ℕ) → (v / 2 ^ i % 2 == 0) ≡ false
    → turn_at b v up down i ≡ (if down then Some (from_place b i (high v i - 2 ^ i)) else None)
at_odd b v up down i h = rw h refl

odd_is : (x : ℕ) → (x % 2 == 0) ≡ false → x % 2 ≡ 1
odd_is x h =
    elim (cases_eq (x % 2) 0) [
      | inl zero-is ↦ let t = (Decides-eqb (x % 2) 0).1 zero-is in cc
      | inr other ↦ omega (arith, other)
    ]

found_even : (b v i u : ℕ) (up down : Bool) → i < b → v / 2 ^ i % 2 ≡ 0
    → Has (HasPattern u) (option_to_list (if up then Some (from_place b i (high v i + 2 ^ i)) else None)) → Found up down v (u % 2 ^ b) i
found_even b v i u true down lt e has = inl (refl, (has_raised u b i v lt e).0 (one-Has (HasPattern u) _ has))
found_even b v i u false down lt e has = absurd (Has-nil (HasPattern u) has)

found_odd : (b v i u : ℕ) (up down : Bool) → i < b → v / 2 ^ i % 2 ≡ 1
    → Has (HasPattern u) (option_to_list (if down then Some (from_place b i (high v i - 2 ^ i)) else None)) → Found up down v (u % 2 ^ b) i
found_odd b v i u up true lt e has = inr (refl, (has_lowered u b i v lt e).0 (one-Has (HasPattern u) _ has))
found_odd b v i u up false lt e has = absurd (Has-nil (HasPattern u) has)

found_at : (b v : ℕ) (up down : Bool) (i u : ℕ) → i < b → Has (HasPattern u) (option_to_list (turn_at b v up down i))
    → Found up down v (u % 2 ^ b) i
found_at b v up down i u lt has =
    elim (cases_Bool (v / 2 ^ i % 2 == 0)) [
      | inl even ↦ found_even b v i u up down lt ((Decides-eqb (v / 2 ^ i % 2) 0).0 even)
          (subst (λ (o : Option Pattern). Has (HasPattern u) (option_to_list o)) (at_even b v up down i even) has)
      | inr odd ↦ found_odd b v i u up down lt (odd_is (v / 2 ^ i) odd)
          (subst (λ (o : Option Pattern). Has (HasPattern u) (option_to_list o)) (at_odd b v up down i odd) has)
    ]

put_up : (b v : ℕ) (down : Bool) (i u : ℕ) → i < b → Turns v (u % 2 ^ b) i → Has (HasPattern u) (option_to_list (turn_at b v true down i))
put_up b v down i u lt t =
    let even = (Decides-eqb (v / 2 ^ i % 2) 0).1 t.0 in
    subst (λ (o : Option Pattern). Has (HasPattern u) (option_to_list o)) (sym (at_even b v true down i even))
    (Has-one (HasPattern u) (from_place b i (high v i + 2 ^ i)) ((has_raised u b i v lt t.0).1 t))

turned_odd : (v w i : ℕ) → Turns w v i → v / 2 ^ i % 2 ≡ 1
turned_odd v w i t = let even = t.0 in let e = t.1 in omega (arith, even, e)

not_even : (x : ℕ) → x ≡ 1 → (x == 0) ≡ false
not_even x e = rw e refl

put_down : (b v : ℕ) (up : Bool) (i u : ℕ) → i < b → Turns (u % 2 ^ b) v i → Has (HasPattern u) (option_to_list (turn_at b v up true i))
put_down b v up i u lt t =
    let odd = turned_odd v (u % 2 ^ b) i t in
    subst (λ (o : Option Pattern). Has (HasPattern u) (option_to_list o)) (sym (at_odd b v up true i (not_even (v / 2 ^ i % 2) odd)))
    (Has-one (HasPattern u) (from_place b i (high v i - 2 ^ i)) ((has_lowered u b i v lt odd).1 t))

put_at : (b v : ℕ) (up down : Bool) (i u : ℕ) → i < b → Found up down v (u % 2 ^ b) i
    → Has (HasPattern u) (option_to_list (turn_at b v up down i))
put_at b v up down i u lt (inl (e, t)) =
    subst (λ (x : Bool). Has (HasPattern u) (option_to_list (turn_at b v x down i))) (sym e) (put_up b v down i u lt t)
put_at b v up down i u lt (inr (e, t)) =
    subst (λ (x : Bool). Has (HasPattern u) (option_to_list (turn_at b v up x i))) (sym e) (put_down b v up i u lt t)

-- ---- all places

turns_found : (b v : ℕ) (up down : Bool) (u n : ℕ) → n ≤ b → Has (HasPattern u) (turns_below b v up down n)
    → (i : ℕ) × (i < n) × Found up down v (u % 2 ^ b) i
turns_found b v up down u zero le has = absurd (Has-nil (HasPattern u) has)
turns_found b v up down u (suc n) le has =
    elim (Has-cases (HasPattern u) (turns_below b v up down n) (option_to_list (turn_at b v up down n)) has) [
      | inl before ↦
          let rest = turns_found b v up down u n (omega (arith, le)) before in
          (rest.0, omega (arith, rest.1), rest.2)
      | inr here ↦ (n, omega arith, found_at b v up down n u (omega (arith, le)) here)
    ]

turns_put : (b v : ℕ) (up down : Bool) (u n i : ℕ) → n ≤ b → i < n → Found up down v (u % 2 ^ b) i
    → Has (HasPattern u) (turns_below b v up down n)
turns_put b v up down u zero i le lt f = absurd (omega (arith, lt))
turns_put b v up down u (suc n) i le lt f =
    elim (cases_lt i n) [
      | inl before ↦ Has-left (HasPattern u) (turns_below b v up down n) (option_to_list (turn_at b v up down n))
          (turns_put b v up down u n i (omega (arith, le)) before f)
      | inr here ↦
          let e : i ≡ n = omega (arith, here, lt) in
          Has-right (HasPattern u) (turns_below b v up down n) (option_to_list (turn_at b v up down n))
          (put_at b v up down n u (omega (arith, le)) (subst (λ (k : ℕ). Found up down v (u % 2 ^ b) k) e f))
    ]

beyond_from : (up down : Bool) (v w i : ℕ) → Found up down v w i → Beyond up down v w
beyond_from up down v w i (inl (e, t)) = inl (e, turn_above v w i t)
beyond_from up down v w i (inr (e, t)) = inr (e, turn_above w v i t)

found_from : (b v w : ℕ) (up down : Bool) → v < 2 ^ b → w < 2 ^ b → Beyond up down v w → (i : ℕ) × (i < b) × Found up down v w i
found_from b v w up down fv fw (inl (e, lt)) = let t = turn_below b v w lt fw in (t.0, t.1, inl (e, t.2))
found_from b v w up down fv fw (inr (e, lt)) = let t = turn_below b w v lt fv in (t.0, t.1, inr (e, t.2))

pub turns_law : (b v : ℕ) (up down : Bool) (u : ℕ) → v < 2 ^ b → Has (HasPattern u) (turns b v up down) ↔ Beyond up down v (u % 2 ^ b)
unfolding turns
turns_law b v up down u fits = (
  λ has. let f = turns_found b v up down u b (omega arith) has in beyond_from up down v (u % 2 ^ b) f.0 f.2,
  λ beyond. let f = found_from b v (u % 2 ^ b) up down fits (mod_below u (2 ^ b) (pow_pos b)) beyond in
      turns_put b v up down u b f.0 (omega arith) f.1 f.2,
)

-- ---- their masks

low_of : (b i datum : ℕ) → i < b → (from_place b i datum).mask < 2 ^ b
low_of b i datum lt = let p = pow_pos i in let q = pow_pos b in omega (arith, p, q)

low_even : (b i datum : ℕ) (take : Bool) → i < b
    → All (λ p. p.mask < 2 ^ b) (option_to_list (if take then Some (from_place b i datum) else None))
low_even b i datum true lt = All-cons (λ p. p.mask < 2 ^ b) (from_place b i datum) [] (low_of b i datum lt) (All-nil (λ p. p.mask < 2 ^ b))
low_even b i datum false lt = All-nil (λ p. p.mask < 2 ^ b)

low_at : (b v : ℕ) (up down : Bool) (i : ℕ) → i < b → All (λ p. p.mask < 2 ^ b) (option_to_list (turn_at b v up down i))
low_at b v up down i lt =
    elim (cases_Bool (v / 2 ^ i % 2 == 0)) [
      | inl even ↦ subst (λ (o : Option Pattern). All (λ p. p.mask < 2 ^ b) (option_to_list o)) (sym (at_even b v up down i even))
          (low_even b i (high v i + 2 ^ i) up lt)
      | inr odd ↦ subst (λ (o : Option Pattern). All (λ p. p.mask < 2 ^ b) (option_to_list o)) (sym (at_odd b v up down i odd))
          (low_even b i (high v i - 2 ^ i) down lt)
    ]

low_below : (b v : ℕ) (up down : Bool) (n : ℕ) → n ≤ b → All (λ p. p.mask < 2 ^ b) (turns_below b v up down n)
low_below b v up down zero le = All-nil (λ p. p.mask < 2 ^ b)
low_below b v up down (suc n) le =
    All-append (λ p. p.mask < 2 ^ b) (turns_below b v up down n) (option_to_list (turn_at b v up down n))
    (low_below b v up down n (omega (arith, le))) (low_at b v up down n (omega (arith, le)))

pub turns_low : (b v : ℕ) (up down : Bool) → All (λ p. p.mask < 2 ^ b) (turns b v up down)
unfolding turns
turns_low b v up down = low_below b v up down b (omega arith)

-- ---- how many there are

few_even : (b i datum : ℕ) (take : Bool) → length (option_to_list (if take then Some (from_place b i datum) else None)) ≤ 1
few_even b i datum true = omega arith
few_even b i datum false = omega arith

few_at : (b v : ℕ) (up down : Bool) (i : ℕ) → length (option_to_list (turn_at b v up down i)) ≤ 1
few_at b v up down i =
    elim (cases_Bool (v / 2 ^ i % 2 == 0)) [
      | inl even ↦ subst (λ (o : Option Pattern). length (option_to_list o) ≤ 1) (sym (at_even b v up down i even))
          (few_even b i (high v i + 2 ^ i) up)
      | inr odd ↦ subst (λ (o : Option Pattern). length (option_to_list o) ≤ 1) (sym (at_odd b v up down i odd))
          (few_even b i (high v i - 2 ^ i) down)
    ]

few_below : (b v : ℕ) (up down : Bool) (n : ℕ) → length (turns_below b v up down n) ≤ n
few_below b v up down zero = omega arith
few_below b v up down (suc n) =
    let long = length-append (turns_below b v up down n) (option_to_list (turn_at b v up down n)) in
    let before = few_below b v up down n in
    let here = few_at b v up down n in
    omega (arith, long, before, here)

pub turns_few : (b v : ℕ) (up down : Bool) → length (turns b v up down) ≤ b
unfolding turns
turns_few b v up down = few_below b v up down b
