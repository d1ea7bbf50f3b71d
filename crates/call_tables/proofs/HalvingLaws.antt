-- Halving rows whose names lie in memory.
use Rattle.std.proofs.Common.{◌≡◌, ℕ, ◌-◌, ◌≤◌, List, [], ◌∷◌, ◌++◌, true, length, take, drop, get_or, Some, refl, sym, ◌∙◌, ap}
use Rattle.std.proofs.Common.{subst, arith}
use Rattle.std.proofs.lemmas.List.{take-append-drop, take_all}
use Rattle.std.specs.declared.cmp.Ordering.TheVariants.{Less, Equal, Greater}
use denote.Ref.{Bor}
use Rattle.call_tables.specs.Rows.{rows, row_in}
use Rattle.call_tables.specs.inner.Order.{Ascends, are_sorted, order}
use Rattle.call_tables.specs.inner.OrderLaws.{ascends, sorted_front, sorted_behind, found, right, left}

abbrev pub Lent : Type 0
Lent = Bor (List ℕ) × List ℕ

abbrev pub plain : Lent → List ℕ × List ℕ
plain e = (e.0.now, e.1)

parts : (front behind : List Lent) (e : Lent) → rows (front ++ e ∷ behind) ≡ rows front ++ plain e ∷ rows behind
parts [] behind e = refl
parts (x ∷ xs) behind e = ap (λ rest. plain x ∷ rest) (parts xs behind e)

module _ (t front behind : List Lent) (e : Lent) (name : List ℕ) (up : are_sorted (rows t) ≡ true) (is : t ≡ front ++ e ∷ behind) where
  shown : rows t ≡ rows front ++ plain e ∷ rows behind
  shown = ap rows is ∙ parts front behind e

  sorted : are_sorted (rows front ++ plain e ∷ rows behind) ≡ true
  sorted = subst (λ x. are_sorted x ≡ true) shown up

  in_order : Ascends (rows front ++ plain e ∷ rows behind)
  in_order = ascends (rows front ++ plain e ∷ rows behind) sorted

  looked : row_in (rows t) name ≡ row_in (rows front ++ plain e ∷ rows behind) name
  looked = ap (λ x. row_in x name) shown

  pub finds : order e.0.now name ≡ Equal → Some e.1 ≡ row_in (rows t) name
  finds same = sym (looked ∙ found (rows front) (rows behind) (plain e) name in_order same)

  pub goes_right : order e.0.now name ≡ Less → row_in (rows behind) name ≡ row_in (rows t) name
  goes_right less = sym (looked ∙ right (rows front) (rows behind) (plain e) name in_order less)

  pub goes_left : order e.0.now name ≡ Greater → row_in (rows front) name ≡ row_in (rows t) name
  goes_left more = sym (looked ∙ left (rows front) (rows behind) (plain e) name in_order more)

  pub behind_sorted : are_sorted (rows behind) ≡ true
  behind_sorted = sorted_behind (rows front) (rows behind) (plain e) sorted

  pub front_sorted : are_sorted (rows front) ≡ true
  front_sorted = sorted_front (rows front) (rows behind) (plain e) sorted

opened : (back : List Lent) (d : Lent) → 1 ≤ length back → back ≡ get_or back 0 d ∷ take (length back - 1) (drop 1 back)
opened [] d h = absurd (omega (arith, h))
opened (x ∷ xs) d h =
    ap (λ rest. x ∷ rest) (sym (take_all (length (x ∷ xs) - 1) xs (omega arith)))

-- a table cut at a place, with the first entry of its back
pub halves : (t front back : List Lent) (m : ℕ) (d : Lent) → front ≡ take m t → back ≡ drop m t → 1 ≤ length back
    → t ≡ front ++ get_or back 0 d ∷ take (length back - 1) (drop 1 back)
halves t front back m d f b h =
    sym (take-append-drop m t) ∙ ap (λ x. x ++ drop m t) (sym f) ∙ ap (λ x. front ++ x) (sym b) ∙ ap (λ x. front ++ x) (opened back d h)
