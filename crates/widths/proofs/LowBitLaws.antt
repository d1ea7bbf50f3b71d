-- The patterns of the numbers whose lowest bits are as asked.
use Rattle.std.proofs.Common.{◌≡◌, ◌≢◌, ℕ, ◌-◌, ◌%◌, ◌^◌, ◌<◌, ◌≤◌, ◌⊎◌, Bool, true, false, inl, inr, List, [], ◌∷◌, Result, Ok, Err, bit_and, refl, sym, ◌∙◌, ap, subst, arith}
use Rattle.std.specs.Prelude.{◌↔◌, IfOk, max}
use Rattle.std.specs.List.{All}
use Rattle.std.specs.Int.Bits.{and_zero_r}
use Rattle.std.proofs.lemmas.Bool.{cases_lt, cases_eq}
use Rattle.std.proofs.lemmas.List.Elements.{All-nil, All-cons}
use Rattle.std.proofs.lemmas.Nat.{pow_pos, mod_below, and_mask, and_assoc, and_comm, and_le_l}
use Rattle.profile.specs.declared.conditions.Cond.{Cond}
use Rattle.profile.specs.declared.conditions.Op.{Op}
use Rattle.profile.specs.Operator.{Compares}
use Rattle.profile.specs.Condition.{Meets}
use Rattle.widths.specs.declared.narrowing.patterns.Pattern.{Pattern}
use Rattle.widths.specs.Counts.{most_by}
use Rattle.widths.specs.Narrowed.{Has}
use Rattle.widths.specs.Patterns.{HasPattern, turns, one}
use Rattle.widths.specs.Parts.{ArePatterns}
use Rattle.widths.proofs.HasLaws.{Has-nil, Has-one, one-Has}
use Rattle.widths.proofs.PatternLaws.{Beyond, turns_law, turns_low, turns_few}

pub if_ok : {T E : Type 0} (P Q : T → Type 0) → ((x : T) → P x → Q x) → (r : Result T E) → IfOk r P → IfOk r Q
if_ok P Q f (Ok x) h = f x h
if_ok P Q f (Err e) h = h

at_least_one : (b : ℕ) → 1 ≤ max 1 b
at_least_one b = omega arith

none_at_most : (most : ℕ) → 0 ≤ most
none_at_most most = omega arith

one_at_most : 1 ≤ 1
one_at_most = omega arith

-- where each number is as asked, and where none is
pub all_asked : (b : ℕ) (asked : ℕ → Type 0) (ps : List Pattern) → ps ≡ one 0 0 → ((w : ℕ) → w < 2 ^ b → asked w)
    → ArePatterns b (max 1 b) asked ps
all_asked b asked ps is f =
    let its : ArePatterns b (max 1 b) asked (one 0 0) = record {
      meets = λ u. (
        λ _. f (u % 2 ^ b) (mod_below u (2 ^ b) (pow_pos b)),
        λ _. Has-one (HasPattern u) (record { mask = 0; datum = 0 }) (and_zero_r u),
      );
      low = All-cons (λ p. p.mask < 2 ^ b) (record { mask = 0; datum = 0 }) [] (pow_pos b) (All-nil (λ p. p.mask < 2 ^ b));
      few = at_least_one b;
    } in
    subst (ArePatterns b (max 1 b) asked) (sym is) its

pub none_asked : (b most : ℕ) (asked : ℕ → Type 0) (ps : List Pattern) → ps ≡ [] → ((w : ℕ) → w < 2 ^ b → ¬ asked w)
    → ArePatterns b most asked ps
none_asked b most asked ps is f =
    let its : ArePatterns b most asked [] = record {
      meets = λ u. (λ h. absurd (Has-nil (HasPattern u) h), λ h. absurd (f (u % 2 ^ b) (mod_below u (2 ^ b) (pow_pos b)) h));
      low = All-nil (λ p. p.mask < 2 ^ b);
      few = none_at_most most;
    } in
    subst (ArePatterns b most asked) (sym is) its

one_asked : (b : ℕ) (asked : ℕ → Type 0) (mask datum : ℕ) (ps : List Pattern) → ps ≡ one mask datum → mask < 2 ^ b
    → ((u : ℕ) → (bit_and u mask ≡ datum) ↔ asked (u % 2 ^ b)) → ArePatterns b 1 asked ps
one_asked b asked mask datum ps is lt f =
    let its : ArePatterns b 1 asked (one mask datum) = record {
      meets = λ u. (
        λ h. (f u).0 (one-Has (HasPattern u) (record { mask = mask; datum = datum }) h),
        λ h. Has-one (HasPattern u) (record { mask = mask; datum = datum }) ((f u).1 h),
      );
      low = All-cons (λ p. p.mask < 2 ^ b) (record { mask = mask; datum = datum }) [] lt (All-nil (λ p. p.mask < 2 ^ b));
      few = one_at_most;
    } in
    subst (ArePatterns b 1 asked) (sym is) its

turns_asked : (b v : ℕ) (ps : List Pattern) (asked : ℕ → Type 0) (up down : Bool) → v < 2 ^ b → ps ≡ turns b v up down
    → ((w : ℕ) → Beyond up down v w ↔ asked w) → ArePatterns b (max 1 b) asked ps
turns_asked b v ps asked up down fits is f =
    let its : ArePatterns b (max 1 b) asked (turns b v up down) = record {
      meets = λ u. (λ h. (f (u % 2 ^ b)).0 ((turns_law b v up down u fits).0 h), λ h. (turns_law b v up down u fits).1 ((f (u % 2 ^ b)).1 h));
      low = turns_low b v up down;
      few = let short = turns_few b v up down in omega (arith, short);
    } in
    subst (ArePatterns b (max 1 b) asked) (sym is) its

up_is : (v w : ℕ) → Beyond true false v w ↔ (v < w)
up_is v w = (λ h. elim h [ inl (e, lt) ↦ lt | inr (e, lt) ↦ cc ], λ lt. inl (refl, lt))

down_is : (v w : ℕ) → Beyond false true v w ↔ (w < v)
down_is v w = (λ h. elim h [ inl (e, lt) ↦ cc | inr (e, lt) ↦ lt ], λ lt. inr (refl, lt))

both_are : (v w : ℕ) → Beyond true true v w ↔ (w ≢ v)
both_are v w = (
  λ h. elim h [ inl (e, lt) ↦ (λ is. omega (arith, lt, is)) | inr (e, lt) ↦ (λ is. omega (arith, lt, is)) ],
  λ other. elim (cases_lt v w) [ inl lt ↦ inl (refl, lt) | inr le ↦ inr (refl, omega (arith, le, other)) ],
)

pub greater_asked : (b v : ℕ) (ps : List Pattern) → v < 2 ^ b → ps ≡ turns b v true false → ArePatterns b (max 1 b) (λ w. v < w) ps
greater_asked b v ps fits is = turns_asked b v ps (λ w. v < w) true false fits is (up_is v)

pub lesser_asked : (b v : ℕ) (ps : List Pattern) → v < 2 ^ b → ps ≡ turns b v false true → ArePatterns b (max 1 b) (λ w. w < v) ps
lesser_asked b v ps fits is = turns_asked b v ps (λ w. w < v) false true fits is (down_is v)

pub unlike_asked : (b v : ℕ) (ps : List Pattern) → v < 2 ^ b → ps ≡ turns b v true true → ArePatterns b (max 1 b) (λ w. w ≢ v) ps
unlike_asked b v ps fits is = turns_asked b v ps (λ w. w ≢ v) true true fits is (both_are v)

equal_is : (b v u : ℕ) → (bit_and u (2 ^ b - 1) ≡ v) ↔ (u % 2 ^ b ≡ v)
equal_is b v u = (λ h. sym (and_mask u b) ∙ h, λ h. and_mask u b ∙ h)

pub equal_asked : (b v : ℕ) (ps : List Pattern) → v < 2 ^ b → ps ≡ one (2 ^ b - 1) v → ArePatterns b 1 (λ w. w ≡ v) ps
equal_asked b v ps fits is =
    let p = pow_pos b in one_asked b (λ w. w ≡ v) (2 ^ b - 1) v ps is (omega (arith, p)) (equal_is b v)

-- the lowest bits of a number under a mask are the number under the lowest bits of the mask
low_mask : (u m b : ℕ) → bit_and u (m % 2 ^ b) ≡ bit_and (u % 2 ^ b) m
low_mask u m b =
    ap (bit_and u) (sym (and_mask m b) ∙ and_comm m (2 ^ b - 1))
    ∙ sym (and_assoc m u (2 ^ b - 1))
    ∙ ap (λ x. bit_and x m) (and_mask u b)

pub masked_asked : (b m d : ℕ) (ps : List Pattern) → ps ≡ one (m % 2 ^ b) d → ArePatterns b 1 (λ w. bit_and w m ≡ d) ps
masked_asked b m d ps is =
    one_asked b (λ w. bit_and w m ≡ d) (m % 2 ^ b) d ps is (mod_below m (2 ^ b) (pow_pos b))
    (λ u. (λ h. sym (low_mask u m b) ∙ h, λ h. low_mask u m b ∙ h))

pub unmasked_asked : (b m d : ℕ) (ps : List Pattern) → ps ≡ [] → 2 ^ b ≤ d → ArePatterns b 1 (λ w. bit_and w m ≡ d) ps
unmasked_asked b m d ps is le =
    none_asked b 1 (λ w. bit_and w m ≡ d) ps is (λ w lt h. let small = and_le_l w m in omega (arith, lt, le, h, small))

-- what is asked for another way
pub asked_like : (b most : ℕ) (one-way other : ℕ → Type 0) (ps : List Pattern) → ((w : ℕ) → one-way w ↔ other w)
    → ArePatterns b most one-way ps → ArePatterns b most other ps
asked_like b most one-way other ps f are = record {
  meets = λ u. (λ h. (f (u % 2 ^ b)).0 ((are.meets u).0 h), λ h. (are.meets u).1 ((f (u % 2 ^ b)).1 h));
  low = are.low;
  few = are.few;
}

-- a condition by its operator
pub of_op : (b : ℕ) (c : Cond) (op : Op) (ps : List Pattern) → c.op ≡ op
    → ArePatterns b (most_by b op) (Compares op c.value c.datum) ps → ArePatterns b (most_by b c.op) (Meets c) ps
of_op b c op ps is are = subst (λ (o : Op). ArePatterns b (most_by b o) (Compares o c.value c.datum) ps) (sym is) are
