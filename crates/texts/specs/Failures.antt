-- Which calls failed.
use Rattle.std.specs.Prelude.{ℕ, ◌≡◌, ◌^◌, ◌-◌, ◌+◌, Bool, true, min}

-- how many calls failed, up to the greatest u64, and whether the last call did
pub record Failures : Type 0 where
  pub count : ℕ
  pub last : Bool

-- a count of failures after one more, which stops at the greatest u64
abbrev pub one_more : ℕ → ℕ
one_more n = min (n + 1) (2 ^ 64 - 1)

-- just one call failed since, and it was the last
abbrev pub HasFailed : Failures → Failures → Type 0
HasFailed old new = (new.count ≡ one_more old.count) × (new.last ≡ true)

-- no call failed since
abbrev pub NoneFailed : Failures → Failures → Type 0
NoneFailed old new = new.count ≡ old.count
