-- What a bundle is that was made of a stack of filters.
use Rattle.std.specs.Prelude.{ℕ, List}
use Rattle.std.specs.List.{All}
use Rattle.call_record.specs.Words.{IsRecord}
use Rattle.machines.specs.declared.arch.Arch.{Arch}
use Rattle.flatten.specs.Stack.{IsFilter, StackGives}
use Rattle.profile.specs.Policy.{Policy}
use Rattle.profile.specs.Said.{said}
use Rattle.together.specs.Combined.{IsBundle}

-- The bytes are filters that the kernel accepts. The bundle means a profile that says of each call record the verdict that counts.
pub record IsOfStack (native : Arch) (filters : List (List ℕ)) (bundle : List ℕ) : Type 0 where
  pub accepted : All IsFilter filters
  pub policy : Policy
  pub means : IsBundle native bundle policy
  pub right : (r : List ℕ) → IsRecord r → StackGives filters r (said policy r)
