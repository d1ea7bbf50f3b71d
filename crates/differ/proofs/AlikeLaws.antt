-- Numbers that are answered alike, and lists of such that are not.
use Rattle.std.proofs.Common.{◌≡◌, ℕ, ◌+◌, ◌<◌, ◌⊎◌, inl, inr, List, [], ◌∷◌, ◌++◌, length, get_or, take, refl, sym, ◌∙◌, subst, ap, arith}
use Rattle.std.specs.List.{All}
use Rattle.std.proofs.lemmas.Bool.{cases_lt}
use Rattle.std.proofs.lemmas.List.{length_push, get_or_append_left, get_or_push, take_more}
use Rattle.std.proofs.lemmas.List.Elements.{Contains-get_or, Contains-append_left, Contains-push, Contains-push_cases}
use Rattle.profile.specs.declared.conditions.Cond.{Cond}
use Rattle.differ.specs.Cells.{AreAlike, AreApart, IsMet}

pub alike_refl : (conds : List Cond) (u : ℕ) → AreAlike conds u u
alike_refl conds u = λ k d lt. refl

pub alike_sym : (conds : List Cond) (u v : ℕ) → AreAlike conds u v → AreAlike conds v u
alike_sym conds u v h = λ k d lt. sym (h k d lt)

pub alike_trans : (conds : List Cond) (u v w : ℕ) → AreAlike conds u v → AreAlike conds v w → AreAlike conds u w
alike_trans conds u v w a b = λ k d lt. a k d lt ∙ b k d lt

pub all_front : (P : Cond → Type 0) (xs : List Cond) (c : Cond) → All P (xs ++ c ∷ []) → All P xs
all_front P xs c h = λ k d lt.
    let within : k < length (xs ++ c ∷ []) = omega (arith, length_push xs c) in
    subst P (get_or_append_left xs (c ∷ []) d k lt) (h k d within)

pub all_last : (P : Cond → Type 0) (xs : List Cond) (c : Cond) → All P (xs ++ c ∷ []) → P c
all_last P xs c h =
    let within : length xs < length (xs ++ c ∷ []) = omega (arith, length_push xs c) in
    subst P (get_or_push xs c c (length xs) refl) (h (length xs) c within)

pub met_trans : (conds : List Cond) (list : List ℕ) (u v : ℕ) → AreAlike conds u v → IsMet conds list v → IsMet conds list u
met_trans conds list u v h met = (met.0, met.1, alike_trans conds u v met.0 h met.2)

pub met_more : (conds : List Cond) (list : List ℕ) (x u : ℕ) → IsMet conds list u → IsMet conds (list ++ x ∷ []) u
met_more conds list x u met = (met.0, Contains-append_left list (x ∷ []) met.0 met.1, met.2)

pub met_itself : (conds : List Cond) (list : List ℕ) (x : ℕ) → IsMet conds (list ++ x ∷ []) x
met_itself conds list x = (x, Contains-push list x, alike_refl conds x)

-- a number is answered as one of the first ones, or as the next one
pub met_cases : (conds : List Cond) (list : List ℕ) (x u : ℕ) → IsMet conds (list ++ x ∷ []) u → IsMet conds list u ⊎ AreAlike conds u x
met_cases conds list x u met =
    elim (Contains-push_cases list x met.0 met.1) [
      | inl here ↦ inl (met.0, here, met.2)
      | inr last ↦ inr (subst (λ v. AreAlike conds u v) (sym last) met.2)
    ]

pub apart_push : (conds : List Cond) (list : List ℕ) (x : ℕ) → AreApart conds list → (IsMet conds list x → ⊥) → AreApart conds (list ++ x ∷ [])
apart_push conds list x apart unmet = λ i j lt within same.
    let len : length (list ++ x ∷ []) ≡ length list + 1 = length_push list x in
    let before : i < length list = omega arith in
    let first : get_or (list ++ x ∷ []) i 0 ≡ get_or list i 0 = get_or_append_left list (x ∷ []) 0 i before in
    let same_first : AreAlike conds (get_or list i 0) (get_or (list ++ x ∷ []) j 0) =
    subst (λ v. AreAlike conds v (get_or (list ++ x ∷ []) j 0)) first same in
    elim (cases_lt j (length list)) [
      | inl inside ↦
          apart i j lt inside (subst (λ v. AreAlike conds (get_or list i 0) v) (get_or_append_left list (x ∷ []) 0 j inside) same_first)
      | inr end ↦
          let at_end : length list ≡ j = omega arith in
          let last : AreAlike conds (get_or list i 0) x =
          subst (λ v. AreAlike conds (get_or list i 0) v) (get_or_push list x 0 j at_end) same_first in
          unmet (get_or list i 0, Contains-get_or list i 0 before, alike_sym conds (get_or list i 0) x last)
    ]

-- one element more
pub one_more : {X : Type 0} (xs : List X) (i : ℕ) (x : X) → i < length xs → x ≡ get_or xs i x → take (i + 1) xs ≡ take i xs ++ x ∷ []
one_more xs i x lt is = take_more xs i x lt ∙ ap (λ y. take i xs ++ y ∷ []) (sym is)

-- what was met of the first numbers is met of the next too, where that is added
pub come_added : (conds : List Cond) (xs list : List ℕ) (i u : ℕ) → i < length xs → ((v : ℕ) → IsMet conds (take i xs) v → IsMet conds list v)
    → IsMet conds (take (i + 1) xs) u → IsMet conds (list ++ get_or xs i 0 ∷ []) u
come_added conds xs list i u lt come met =
    let x = get_or xs i 0 in
    elim (met_cases conds (take i xs) x u (subst (λ ys. IsMet conds ys u) (take_more xs i 0 lt) met)) [
      | inl before ↦ met_more conds list x u (come u before)
      | inr same ↦ met_trans conds (list ++ x ∷ []) u x same (met_itself conds list x)
    ]

-- and where it is met already
pub come_met : (conds : List Cond) (xs list : List ℕ) (i u : ℕ) → i < length xs → ((v : ℕ) → IsMet conds (take i xs) v → IsMet conds list v)
    → IsMet conds list (get_or xs i 0) → IsMet conds (take (i + 1) xs) u → IsMet conds list u
come_met conds xs list i u lt come has met =
    let x = get_or xs i 0 in
    elim (met_cases conds (take i xs) x u (subst (λ ys. IsMet conds ys u) (take_more xs i 0 lt) met)) [
      | inl before ↦ come u before
      | inr same ↦ met_trans conds list u x same has
    ]
