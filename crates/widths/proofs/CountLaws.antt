-- How many lists and rules narrowing makes at most.
use Rattle.std.proofs.Common.{◌≡◌, ℕ, zero, suc, ◌+◌, ◌*◌, ◌<◌, ◌≤◌, inl, inr, true, false, List, [], ◌∷◌, ◌++◌, length, length-append, map, take, drop, refl, sym, ◌∙◌, ap, subst, arith}
use Rattle.std.specs.Prelude.{nat_le, max, slice_index}
use Rattle.std.proofs.lemmas.Bool.{cases_lt, le-leb}
use Rattle.std.proofs.lemmas.Bool.Decides.{leb_tells}
use Rattle.std.proofs.lemmas.List.{length-map, take-append-drop}
use native.Mathlib.Nat.{zero-mul, one-mul, mul-one, suc-mul, mul_comm, mul_assoc, mul-le-mul, mul-le-mul_left}
use Rattle.profile.specs.declared.conditions.Cond.{Cond}
use Rattle.profile.specs.declared.conditions.Op.{Op}
use Rattle.profile.specs.declared.conditions.Op.TheVariants.{Ne, Lt, Le, Eq, Ge, Gt, MaskedEq}
use Rattle.profile.specs.Policy.{most_rules}
use Rattle.widths.specs.Counts.{most_by, most_parts, most_lists, IsCutCause}
use Rattle.widths.specs.declared.narrowing.fault.CutError.{CutError}
use Rattle.widths.specs.declared.narrowing.fault.CutError.TheVariants.{TooMany, OutOfMemory}
use Rattle.widths.specs.Cutting.{with_each, extended}

leb_false : (a b : ℕ) → b < a → nat_le a b ≡ false
leb_false a b lt = elim (leb_tells a b) [ inl t ↦ absurd (omega (arith, lt, t.1)) | inr f ↦ f.0 ]

pub most_low : (b : ℕ) (c : Cond) → b ≤ 32 → most_parts b c ≡ most_by b c.op
most_low b c le = rw (le-leb b 32 le) refl

pub most_wide : (b : ℕ) (c : Cond) → 32 < b → most_parts b c ≡ 1
most_wide b c lt = rw (leb_false b 32 lt) refl

some_by : (b : ℕ) (op : Op) → 1 ≤ most_by b op
some_by b Ne = omega arith
some_by b Lt = omega arith
some_by b Le = omega arith
some_by b Eq = omega arith
some_by b Ge = omega arith
some_by b Gt = omega arith
some_by b MaskedEq = omega arith

some_parts : (b : ℕ) (c : Cond) → 1 ≤ most_parts b c
some_parts b c =
    elim (cases_lt 32 b) [
      | inl lt ↦ let e = most_wide b c lt in omega (arith, e)
      | inr le ↦ let e = most_low b c le in let some = some_by b c.op in omega (arith, e, some)
    ]

-- ---- lists of parts

pub extended_long : (parts : List Cond) (css : List (List Cond)) → length (extended parts css) ≡ length css * length parts
extended_long parts [] = sym (zero-mul (length parts))
extended_long parts (cs ∷ css) =
    let long = length-append (with_each parts cs) (extended parts css) in
    let one = length-map parts (λ d. cs ++ d ∷ []) in
    let two = extended_long parts css in
    let e : length (extended parts (cs ∷ css)) ≡ length css * length parts + length parts = omega (arith, long, one, two) in
    e ∙ sym (suc-mul (length css) (length parts))

pub extended_few : (parts : List Cond) (css : List (List Cond)) (n m : ℕ) → length css ≤ n → length parts ≤ m → length (extended parts css) ≤ n * m
extended_few parts css n m few short = subst (λ x. x ≤ n * m) (sym (extended_long parts css)) (mul-le-mul few short)

module _ (plan : List ℕ) where
  both_lists : (cs ds : List Cond) → most_lists plan (cs ++ ds) ≡ most_lists plan cs * most_lists plan ds
  both_lists [] ds = sym (one-mul (most_lists plan ds))
  both_lists (c ∷ cs) ds =
      ap (λ x. most_parts (slice_index plan c.index) c * x) (both_lists cs ds)
      ∙ sym (mul_assoc (most_parts (slice_index plan c.index) c) (most_lists plan cs) (most_lists plan ds))

  pub one_more_list : (cs : List Cond) (c : Cond) → most_lists plan (cs ++ c ∷ []) ≡ most_lists plan cs * most_parts (slice_index plan c.index) c
  one_more_list cs c =
      both_lists cs (c ∷ []) ∙ ap (λ x. most_lists plan cs * x) (mul-one (most_parts (slice_index plan c.index) c))

  some_lists : (cs : List Cond) → 1 ≤ most_lists plan cs
  some_lists [] = omega arith
  some_lists (c ∷ cs) =
      let both = mul-le-mul (some_parts (slice_index plan c.index) c) (some_lists cs) in omega (arith, both)

  first_lists : (cs ds : List Cond) → most_lists plan cs ≤ most_lists plan (cs ++ ds)
  first_lists cs ds =
      let all = both_lists cs ds in
      let more = mul-le-mul_left (most_lists plan cs) (some_lists ds) in
      let one = mul-one (most_lists plan cs) in
      omega (arith, all, more, one)

  pub taken_lists : (cs : List Cond) (i : ℕ) → most_lists plan (take i cs) ≤ most_lists plan cs
  taken_lists cs i =
      subst (λ (ds : List Cond). most_lists plan (take i cs) ≤ most_lists plan ds) (take-append-drop i cs) (first_lists (take i cs) (drop i cs))

-- ---- why rules are not narrowed

pub for_memory : (most : ℕ) (e : CutError) → e ≡ OutOfMemory → IsCutCause most e
for_memory most e is = subst (IsCutCause most) (sym is) tt

pub cause_more : (most more : ℕ) (e : CutError) → most ≤ more → IsCutCause most e → IsCutCause more e
cause_more most more TooMany le lt = omega (arith, le, lt)
cause_more most more OutOfMemory le h = tt
