-- Lists that are alike place by place.
use Rattle.std.proofs.Common.{◌≡◌, ℕ, suc, ◌<◌, List, [], ◌∷◌, length, map, get_or, refl, ◌∙◌, ap, arith}

pub maps_same : (f : ℕ → ℕ) (xs ys : List ℕ) → length xs ≡ length ys → ((j : ℕ) → j < length xs → f (get_or xs j 0) ≡ f (get_or ys j 0))
    → map f xs ≡ map f ys
maps_same f [] [] long h = refl
maps_same f [] (y ∷ ys) long h = absurd (omega arith)
maps_same f (x ∷ xs) [] long h = absurd (omega arith)
maps_same f (x ∷ xs) (y ∷ ys) long h =
    ap (λ u. u ∷ map f xs) (h 0 (omega arith)) ∙ ap (λ us. f y ∷ us) (maps_same f xs ys (omega arith) (λ j lt. h (suc j) (omega arith)))
