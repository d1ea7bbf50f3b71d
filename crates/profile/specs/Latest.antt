-- The rules of a list for one call, from the last to the first.
use Rattle.std.specs.Prelude.{◌≡◌, ◌<◌, ◌≤◌, ℕ, List, Option, Some, IfSome, slice_get}
use Rattle.std.specs.Option.{IsSomeAnd}
use Rattle.machines.specs.Arch.{token_of}
use Rattle.profile.specs.declared.rules.Rule.{Rule}

-- the rule is for the call of this number on the machine of this token
pub record IsFor (token nr : ℕ) (rule : Rule) : Type 0 where
  pub machine : token_of rule.arch ≡ token
  pub number : rule.nr ≡ nr

-- a rule for this call stands at the place, and the place is before `end`
pub record StandsAt (rules : List Rule) (token nr end place : ℕ) : Type 0 where
  pub rule : Rule
  pub before : place < end
  pub at : slice_get rules place ≡ Some rule
  pub is_for : IsFor token nr rule

-- the greatest place before `end` of a rule for this call, or there is none
pub record IsLatest (rules : List Rule) (token nr end : ℕ) (latest : Option ℕ) : Type 0 where
  pub stands : IfSome latest (StandsAt rules token nr end)
  pub greatest : (k : ℕ) → StandsAt rules token nr end k → IsSomeAnd latest (λ place. k ≤ place)
