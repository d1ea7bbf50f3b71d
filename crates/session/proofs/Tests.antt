-- Tests on numbers.
use Rattle.std.proofs.Common.{◌≡◌, ℕ, true, false, arith}
use Rattle.std.specs.Prelude.{◌==◌}
use Rattle.std.proofs.lemmas.Bool.Decides.{nat_tests}

pub other_byte : (a b : ℕ) → (a ≡ b → ⊥) → (a == b) ≡ false
other_byte a b h = grind (arith, nat_tests)

pub is_zero : (n : ℕ) → (n == 0) ≡ true → n ≡ 0
is_zero n h = grind (arith, nat_tests)

pub is_not_zero : (n : ℕ) → (n == 0) ≡ false → n ≡ 0 → ⊥
is_not_zero n h e = grind (arith, nat_tests)
