-- Lists of lines.
use Rattle.std.proofs.Common.{ℕ, suc, List, ◌∷◌, refl, arith}
use Rattle.std.specs.List.{Contains}

pub first_of : (x : List ℕ) (xs : List (List ℕ)) → Contains (x ∷ xs) x
first_of x xs = (0, omega arith, refl)

pub later_of : (x y : List ℕ) (xs : List (List ℕ)) → Contains xs y → Contains (x ∷ xs) y
later_of x y xs (k, below, is) = (suc k, omega (arith, below), is)
