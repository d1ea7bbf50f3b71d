-- What stays told where more is found.
use Rattle.std.specs.Prelude.{◌≡◌, ℕ, true}
use Rattle.differ.specs.Differences.{has_token, is_told, is_told_with}
use Rattle.differ.specs.declared.gathered.Differences.{Differences}
use Rattle.differ.specs.declared.direction.Direction.{Direction}
use Rattle.differ.specs.Named.{is_named}

pub record Extends (old new : Differences) : Type 0 where
  pub told : (token nr : ℕ) (direction : Direction) → is_told old.found.items token nr direction ≡ true
      → is_told new.found.items token nr direction ≡ true
  pub with : (token : ℕ) (direction : Direction) → is_told_with old.found.items token direction ≡ true
      → is_told_with new.found.items token direction ≡ true
  pub crowded : (token nr : ℕ) → is_named old.crowded.items token nr ≡ true → is_named new.crowded.items token nr ≡ true
  pub tokens : (token : ℕ) → has_token old.crowded.items token ≡ true → has_token new.crowded.items token ≡ true
