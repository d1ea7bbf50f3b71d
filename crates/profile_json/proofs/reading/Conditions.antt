-- Conditions on arguments of their own: there are at most six.
use Rattle.std.proofs.Common.{◌≡◌, ℕ, zero, suc, ◌<◌, ◌≤◌, ◌==◌, List, [], ◌∷◌, ◌++◌, length, map, Bool, true, false, not, cond, refl}
use Rattle.std.proofs.Common.{sym, ◌∙◌, ap, arith, inl, inr, length-append, ◌+◌, drop, get_or, Result, Ok}
use Rattle.std.specs.List.{list_any, AllByRecursion}
use Rattle.std.proofs.lemmas.List.{map-append, length-map, map_push, drop_more}
use Rattle.std.proofs.lemmas.Bool.{cases_Bool, and_parts, or_parts, not-true}
use Rattle.std.proofs.lemmas.Bool.Decides.{nat_tests, Decides-eqb}
use Rattle.profile.specs.declared.conditions.Cond.{Cond}
use Rattle.profile.specs.Operator.{are_distinct}
use Rattle.serde_json.specs.declared.value.Value.{Value}
use Rattle.serde_json.specs.View.{view}
use Rattle.profile_json.specs.Fault.{Fault}
use Rattle.profile_json.specs.Parts.{CondParts, cond_parts}
use Rattle.profile_json.specs.inner.Outcome.{◌>>=◌}
use Rattle.profile_json.specs.inner.Reading.{arg_of, args_after}

-- conditions and their parts have the same indexes
indexes_are : (cs : List Cond) → map (λ c. c.index) (map cond_parts cs) ≡ map (λ c. c.index) cs
indexes_are [] = refl
indexes_are (c ∷ cs) = ap (λ is. c.index ∷ is) (indexes_are cs)

pub any_index : (cs : List Cond) (i : ℕ)
    → list_any (λ j. j == i) (map (λ c. c.index) (map cond_parts cs)) ≡ list_any (λ j. j == i) (map (λ c. c.index) cs)
any_index cs i = ap (list_any (λ j. j == i)) (indexes_are cs)

pub in_range : (cs : List Cond) → AllByRecursion (λ i. i < 6) (map (λ c. c.index) cs)
in_range [] = tt
in_range (c ∷ cs) = (c.in_range, in_range cs)

any_push : (p : ℕ → Bool) (xs : List ℕ) (y : ℕ) → list_any p xs ≡ false → p y ≡ false → list_any p (xs ++ y ∷ []) ≡ false
any_push p [] y h e = rw e refl
any_push p (x ∷ xs) y h e =
    let parts = or_parts (p x) (list_any p xs) h in
    rw (parts.0) (any_push p xs y parts.1 e)

pub distinct_push : (xs : List ℕ) (y : ℕ) → are_distinct xs ≡ true → list_any (λ x. x == y) xs ≡ false → are_distinct (xs ++ y ∷ []) ≡ true
distinct_push [] y h e = refl
distinct_push (x ∷ xs) y h e =
    let parts = and_parts (not (list_any (λ z. z == x) xs)) (are_distinct xs) h in
    let apart = or_parts (x == y) (list_any (λ z. z == y) xs) e in
    let other : (y == x) ≡ false = grind (arith, nat_tests, apart.0) in
    rw (any_push (λ z. z == x) xs y (not-true (list_any (λ z. z == x) xs) parts.0) other) (distinct_push xs y parts.1 apart.1)

-- without n
abbrev others : ℕ → List ℕ → List ℕ
others n [] = []
others n (x ∷ xs) = cond (x == n) (others n xs) (x ∷ others n xs)

below_top : (x n : ℕ) → x < suc n → (x == n) ≡ false → x < n
below_top x n h other = grind (arith, nat_tests)

others_all : (n : ℕ) (xs : List ℕ) → AllByRecursion (λ i. i < suc n) xs → AllByRecursion (λ i. i < n) (others n xs)
others_all n [] h = tt
others_all n (x ∷ xs) h =
    elim (cases_Bool (x == n)) [
      | inl same ↦ rw same (others_all n xs h.1)
      | inr other ↦ (let below : x < n = below_top x n h.0 other in rw other (below, others_all n xs h.1))
    ]

others_any : (n : ℕ) (xs : List ℕ) (y : ℕ) → list_any (λ z. z == y) xs ≡ false → list_any (λ z. z == y) (others n xs) ≡ false
others_any n [] y h = refl
others_any n (x ∷ xs) y h =
    let parts = or_parts (x == y) (list_any (λ z. z == y) xs) h in
    elim (cases_Bool (x == n)) [
      | inl same ↦ rw same (others_any n xs y parts.1)
      | inr other ↦ rw (other, parts.0) (others_any n xs y parts.1)
    ]

others_distinct : (n : ℕ) (xs : List ℕ) → are_distinct xs ≡ true → are_distinct (others n xs) ≡ true
others_distinct n [] h = refl
others_distinct n (x ∷ xs) h =
    let parts = and_parts (not (list_any (λ z. z == x) xs)) (are_distinct xs) h in
    let apart : list_any (λ z. z == x) (others n xs) ≡ false = others_any n xs x (not-true (list_any (λ z. z == x) xs) parts.0) in
    elim (cases_Bool (x == n)) [
      | inl same ↦ rw same (others_distinct n xs parts.1)
      | inr other ↦ rw (other, apart) (others_distinct n xs parts.1)
    ]

others_same : (n : ℕ) (xs : List ℕ) → list_any (λ z. z == n) xs ≡ false → others n xs ≡ xs
others_same n [] h = refl
others_same n (x ∷ xs) h =
    let parts = or_parts (x == n) (list_any (λ z. z == n) xs) h in
    rw (parts.0, others_same n xs parts.1) refl

length-others : (n : ℕ) (xs : List ℕ) → are_distinct xs ≡ true → length xs ≤ suc (length (others n xs))
length-others n [] h = omega arith
length-others n (x ∷ xs) h =
    let parts = and_parts (not (list_any (λ z. z == x) xs)) (are_distinct xs) h in
    let apart : list_any (λ z. z == x) xs ≡ false = not-true (list_any (λ z. z == x) xs) parts.0 in
    elim (cases_Bool (x == n)) [
      | inl same ↦
          let is : x ≡ n = (Decides-eqb x n).0 same in
          let none : list_any (λ z. z == n) xs ≡ false = ap (λ m. list_any (λ z. z == m) xs) (sym is) ∙ apart in
          rw (same, others_same n xs none) (omega arith)
      | inr other ↦ (let rest : length xs ≤ suc (length (others n xs)) = length-others n xs parts.1 in rw other (omega arith))
    ]

-- different numbers below n are at most n
few_below : (n : ℕ) (xs : List ℕ) → are_distinct xs ≡ true → AllByRecursion (λ i. i < n) xs → length xs ≤ n
few_below n [] h b = omega arith
few_below zero (x ∷ xs) h b = let no : x < 0 = b.0 in absurd (omega arith)
few_below (suc n) (x ∷ xs) h b =
    let rest : length (others n (x ∷ xs)) ≤ n = few_below n (others n (x ∷ xs)) (others_distinct n (x ∷ xs) h) (others_all n (x ∷ xs) b) in
    let all : length (x ∷ xs) ≤ suc (length (others n (x ∷ xs))) = length-others n (x ∷ xs) h in
    omega arith

-- the indexes after one more condition
pub apart_push : (cs : List Cond) (c : Cond) → are_distinct (map (λ d. d.index) cs) ≡ true
    → list_any (λ j. j == c.index) (map (λ d. d.index) cs) ≡ false → are_distinct (map (λ d. d.index) (cs ++ c ∷ [])) ≡ true
apart_push cs c h e =
    rw map-append (distinct_push (map (λ d. d.index) cs) c.index h e)

pub room : (cs : List Cond) (c : Cond) → are_distinct (map (λ d. d.index) cs) ≡ true
    → list_any (λ j. j == c.index) (map (λ d. d.index) cs) ≡ false → length cs < 6
room cs c h e =
    let all : length (map (λ d. d.index) (cs ++ c ∷ [])) ≤ 6 =
    few_below 6 (map (λ d. d.index) (cs ++ c ∷ [])) (apart_push cs c h e) (in_range (cs ++ c ∷ [])) in
    omega (arith, length-map (cs ++ c ∷ []) (λ d. d.index), length-append cs (c ∷ []))

-- one more member of `args`
pub args_step : (found : List Cond) (c : Cond) (new : List Cond) (values : List Value) (n : ℕ) (value : Value)
    → (r : Result (List CondParts) Fault)
    → n < length values → value ≡ get_or values n value → new ≡ found ++ c ∷ []
    → arg_of (map cond_parts found) (view value) ≡ Ok (cond_parts c) → args_after (map cond_parts found) (map view (drop n values)) ≡ r
    → args_after (map cond_parts new) (map view (drop (n + 1) values)) ≡ r
args_step found c new values n value r some at is reads before =
    let vs = drop (n + 1) values in
    let left : drop n values ≡ value ∷ vs = drop_more values n value some ∙ ap (λ v. v ∷ vs) (sym at) in
    let all : args_after (map cond_parts found ++ cond_parts c ∷ []) (map view vs) ≡ r =
    ap (λ (o : Result CondParts Fault). o >>= (λ x. args_after (map cond_parts found ++ x ∷ []) (map view vs))) (sym reads)
    ∙ ap (λ xs. args_after (map cond_parts found) (map view xs)) (sym left) ∙ before in
    ap (λ xs. args_after (map cond_parts xs) (map view vs)) is ∙ ap (λ xs. args_after xs (map view vs)) (map_push cond_parts found c) ∙ all
