-- Products of how many ways there are.
use Rattle.std.specs.Prelude.{if◌then◌else◌}
use Rattle.std.proofs.Common.{◌≡◌, refl, Bool, true, false, ℕ, ◌+◌, ◌*◌, ◌/◌, ◌%◌, ◌<◌, ◌≤◌, ◌++◌, inl, inr, List, length, ◌∙◌, ap, sym, add-one, subst, arith}
use Rattle.std.proofs.lemmas.Bool.{cases_lt}
use Rattle.std.proofs.lemmas.Nat.{div-add-mod', le-div, mul-le, pow_pos}
use Rattle.profile.specs.declared.conditions.Cond.{Cond}
use Rattle.profile.specs.Policy.{Policy}
use Rattle.differ.specs.Cells.{AreCells}
use Rattle.std.specs.List.{list_any}
use Rattle.differ.specs.OnCall.{conditions_of, conditions_on, has_bit, rules_for, ways_by_masks, ways_of, ways_on}
use Rattle.differ.specs.declared.opened.Open.{Open}
use Rattle.differ.specs.inner.Open.{open_on}

pub too_many : (most n len : ℕ) → 0 < n → most / n < len → most < n * len
too_many most n len pos lt = elim (cases_lt most (n * len)) [
  | inl beyond ↦ beyond
  | inr few ↦ absurd (let le : len ≤ most / n = le-div len most n pos (let turned : len * n ≤ most = omega arith in turned) in omega arith)
]

pub still_few : (most n len : ℕ) → len ≤ most / n → n * len ≤ most
still_few most n len le =
    let split : most / n * n + most % n ≡ most = div-add-mod' most n in
    let product : len * n ≤ most / n * n = mul-le len n (most / n) n le (omega arith) in
    omega arith

-- ---- counted without a list

pub masks_none : (conds : List Cond) → 1 ≤ ways_by_masks conds 0
unfolding ways_by_masks
masks_none conds = omega arith

masks_cases : (b : Bool) (f v w n : ℕ) → f ≡ (if b then 2 else 1) → w ≤ n → v ≤ w * f → v ≤ (if b then 2 else 1) * n
masks_cases true f v w n is le small = let twice : v ≤ w * 2 = subst (λ x. v ≤ w * x) is small in omega arith
masks_cases false f v w n is le small = let once : v ≤ w * 1 = subst (λ x. v ≤ w * x) is small in omega arith

-- one place more
pub masks_more : (conds : List Cond) (n f w v : ℕ) → f ≡ (if list_any (has_bit n) conds then 2 else 1) → w ≤ ways_by_masks conds n → v ≤ w * f
    → v ≤ ways_by_masks conds (n + 1)
unfolding ways_by_masks
masks_more conds n f w v is le small =
    subst (λ k. v ≤ ways_by_masks conds k) (sym (add-one n)) (masks_cases (list_any (has_bit n) conds) f v w (ways_by_masks conds n) is le small)

-- the product is beyond, if a lesser one is
pub beyond_more : (most all w r x y : ℕ) → most < all → all ≤ w * r → w ≤ x → r ≤ y → most < x * y
beyond_more most all w r x y lt small ways rules = let product : w * r ≤ x * y = mul-le w r x y ways rules in omega arith

pub ways_small : (count masks by_masks ways m k n : ℕ) → count ≤ m → masks ≤ k → by_masks ≤ n → ways ≤ (64 * count + 1) * ((masks + 1) * by_masks)
    → ways ≤ (64 * m + 1) * ((k + 1) * n)
ways_small count masks by_masks ways m k n few few_masks few_ways le =
    let asked : (masks + 1) * by_masks ≤ (k + 1) * n = mul-le (masks + 1) by_masks (k + 1) n (omega arith) few_ways in
    let product : (64 * count + 1) * ((masks + 1) * by_masks) ≤ (64 * m + 1) * ((k + 1) * n) =
    mul-le (64 * count + 1) ((masks + 1) * by_masks) (64 * m + 1) ((k + 1) * n) (omega arith) asked in
    omega arith

le_through : (a b c : ℕ) → a ≤ b → b ≤ c → a ≤ c
le_through a b c one other = omega arith

-- one argument more
pub ways_next : (p q : Policy) (token nr j n here ways : ℕ) (held : Open) (conds : List Cond)
    → held.first.items ≡ rules_for token nr p.rules → held.second.items ≡ rules_for token nr q.rules → conds ≡ open_on j held
    → n ≤ ways_of p q token nr j → here ≤ ways_on conds → ways ≤ here * n → ways ≤ ways_of p q token nr (j + 1)
ways_next p q token nr j n here ways held conds a b is few le small =
    let whole : conds ≡ conditions_of p q token nr j =
    is ∙ ap (λ rules. conditions_on j rules ++ conditions_on j held.second.items) a
    ∙ ap (λ rules. conditions_on j (rules_for token nr p.rules) ++ conditions_on j rules) b in
    let at : here ≤ ways_on (conditions_of p q token nr j) = subst (λ cs. here ≤ ways_on cs) whole le in
    let product : here * n ≤ ways_on (conditions_of p q token nr j) * ways_of p q token nr j =
    mul-le here n (ways_on (conditions_of p q token nr j)) (ways_of p q token nr j) at few in
    let whole_product : ways ≤ ways_on (conditions_of p q token nr j) * ways_of p q token nr j = le_through ways (here * n)
    (ways_on (conditions_of p q token nr j) * ways_of p q token nr j) small product in
    subst (λ k. ways ≤ ways_of p q token nr k) (sym (add-one j)) whole_product

-- there is one way at least
pub some_cell : (conds : List Cond) (bits : ℕ) (list : List ℕ) → AreCells conds bits list → 0 < length list
some_cell conds bits list cells =
    let met = cells.each_is_met 0 (pow_pos bits) in
    let within : met.1.0 < length list = met.1.1 in
    omega arith
