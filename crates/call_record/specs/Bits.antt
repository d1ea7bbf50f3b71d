-- Numbers that have given bits under a mask. Conditions on an argument and the facts of a certificate both
-- name such bits, and this is the lowest crate below both.
use Rattle.std.specs.Prelude.{◌≡◌, ℕ, ◌≤◌, bit_and}

-- u is the least number from `from` on whose bits under the mask are the datum
pub record IsLeastFrom (from mask datum u : ℕ) : Type 0 where
  pub above : from ≤ u
  pub bits : bit_and u mask ≡ datum
  pub least : (v : ℕ) → from ≤ v → bit_and v mask ≡ datum → u ≤ v
