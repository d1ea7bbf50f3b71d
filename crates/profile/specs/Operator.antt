-- What an operator compares (OCI Runtime Specification, config-linux, Seccomp; seccomp_rule_add(3)).
use Rattle.std.specs.Prelude.{◌≡◌, ◌≢◌, ℕ, ◌<◌, ◌≤◌, List, [], ◌∷◌, Bool, true, not, ◌&&◌, ◌==◌, bit_and}
use Rattle.std.specs.List.{list_any}
use Rattle.profile.specs.declared.conditions.Op.{Op}
use Rattle.profile.specs.declared.conditions.Op.TheVariants.{Ne, Lt, Le, Eq, Ge, Gt, MaskedEq}

-- the comparison holds of a number u
abbrev pub Compares : Op → ℕ → ℕ → ℕ → Type 0
Compares Ne value datum u = u ≢ value
Compares Lt value datum u = u < value
Compares Le value datum u = u ≤ value
Compares Eq value datum u = u ≡ value
Compares Ge value datum u = value ≤ u
Compares Gt value datum u = value < u
Compares MaskedEq value datum u = bit_and u value ≡ datum

-- the bits that a datum may have: those of the mask under MASKED_EQ, and else none
abbrev pub mask_of : Op → ℕ → ℕ
mask_of Ne value = 0
mask_of Lt value = 0
mask_of Le value = 0
mask_of Eq value = 0
mask_of Ge value = 0
mask_of Gt value = 0
mask_of MaskedEq value = value

-- no number stands twice
abbrev pub are_distinct : List ℕ → Bool
are_distinct [] = true
are_distinct (x ∷ xs) = not (list_any (λ y. y == x) xs) && are_distinct xs
