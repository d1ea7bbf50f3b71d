-- Lists, and what functions make of them.
use Rattle.std.proofs.Common.{◌≡◌, ℕ, zero, suc, ◌<◌, List, [], ◌∷◌, length, map, get_or, Some, None}
use Rattle.std.proofs.Common.{◌⊎◌, inl, inr, refl, ap, subst, arith}
use Rattle.std.specs.List.{All, Contains, slice_get}
use Rattle.std.proofs.lemmas.Option.{same_Some}
use Rattle.std.proofs.lemmas.List.Elements.{All-cons, All-contains_itself, All-head, All-nil, All-tail, All-weaker, Contains-append_right}

module _ {A : Type 0} where
  contains_nil : (y : A) → Contains [] y → ⊥
  contains_nil y h = let never = h.1 in absurd (omega (arith, never))

  contains_head : (x : A) (xs : List A) → Contains (x ∷ xs) x
  contains_head x xs = (0, omega arith, refl)

  contains_tail : (x : A) (xs : List A) (y : A) → Contains xs y → Contains (x ∷ xs) y
  contains_tail x xs y h = Contains-append_right (x ∷ []) xs y h

  cases_at : (x : A) (xs : List A) (y : A) (k : ℕ) → k < length (x ∷ xs) → get_or (x ∷ xs) k y ≡ y → (x ≡ y) ⊎ Contains xs y
  cases_at x xs y zero lt is = inl is
  cases_at x xs y (suc k) lt is = inr (k, omega (arith, lt), is)

  contains_cases : (x : A) (xs : List A) (y : A) → Contains (x ∷ xs) y → (x ≡ y) ⊎ Contains xs y
  contains_cases x xs y h = cases_at x xs y h.0 h.1 h.2

  pub contains_at : (xs : List A) (i : ℕ) (x : A) → slice_get xs i ≡ Some x → Contains xs x
  contains_at [] i x h = cc
  contains_at (y ∷ ys) zero x h = let same : y ≡ x = cc in subst (λ z. Contains (y ∷ ys) z) same (contains_head y ys)
  contains_at (y ∷ ys) (suc i) x h = contains_tail y ys x (contains_at ys i x h)

  -- what holds of each element that a list contains
  pub all_by : (P : A → Type 0) (xs : List A) → ((x : A) → Contains xs x → P x) → All P xs
  all_by P xs h = All-weaker (Contains xs) P h xs (All-contains_itself xs)

module _ {A B : Type 0} (f : A → B) where
  pub contains_map : (xs : List A) (x : A) → Contains xs x → Contains (map f xs) (f x)
  contains_map [] x h = absurd (contains_nil x h)
  contains_map (y ∷ ys) x h =
      elim (contains_cases y ys x h) [
        | inl here ↦ subst (λ z. Contains (map f (y ∷ ys)) (f z)) here (contains_head (f y) (map f ys))
        | inr later ↦ contains_tail (f y) (map f ys) (f x) (contains_map ys x later)
      ]

  pub contains_map_back : (xs : List A) (y : B) → Contains (map f xs) y → (x : A) × Contains xs x × (f x ≡ y)
  contains_map_back [] y h = absurd (contains_nil y h)
  contains_map_back (x ∷ xs) y h =
      elim (contains_cases (f x) (map f xs) y h) [
        | inl here ↦ (x, contains_head x xs, here)
        | inr later ↦ (let at = contains_map_back xs y later in (at.0, contains_tail x xs at.0 at.1, at.2))
      ]

  pub all_unmap : (P : B → Type 0) (xs : List A) → All P (map f xs) → All (λ x. P (f x)) xs
  all_unmap P [] h = All-nil (λ x. P (f x))
  all_unmap P (x ∷ xs) h =
      All-cons (λ y. P (f y)) x xs (All-head P (f x) (map f xs) h) (all_unmap P xs (All-tail P (f x) (map f xs) h))

  pub at_map : (xs : List A) (i : ℕ) (x : A) → slice_get xs i ≡ Some x → slice_get (map f xs) i ≡ Some (f x)
  at_map [] i x h = cc
  at_map (y ∷ ys) zero x h = ap (λ z. Some (f z)) (same_Some y x h)
  at_map (y ∷ ys) (suc i) x h = at_map ys i x h

  pub at_map_back : (xs : List A) (i : ℕ) (y : B) → slice_get (map f xs) i ≡ Some y → (x : A) × (slice_get xs i ≡ Some x) × (f x ≡ y)
  at_map_back [] i y h = absurd (none y h) where
    none : (y : B) → None ≡ Some y → ⊥
    none y h = cc
  at_map_back (x ∷ xs) zero y h = (x, refl, same_Some (f x) y h)
  at_map_back (x ∷ xs) (suc i) y h = at_map_back xs i y h
