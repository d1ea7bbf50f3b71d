-- A record, and the same with the bits at 0 that are not read.
use Rattle.std.specs.Prelude.{◌≡◌, ℕ, List, false}
use Rattle.call_record.specs.Words.{IsRecord}
use Rattle.profile.specs.Policy.{Policy, Says}
use Rattle.differ.specs.Direction.{tells}
use Rattle.differ.specs.declared.direction.Direction.{Direction}
use Rattle.differ.specs.OnCall.{IsOfCall}
use Rattle.widths.specs.Alike.{IsCleared}

pub record IsPair (token nr : ℕ) (r s : List ℕ) : Type 0 where
  pub of_call : IsOfCall token nr r
  pub is_record : IsRecord s
  pub cleared : IsCleared r s

-- what is said of the record and of such a one is not unlike in the direction
pub record IsLikeOne (p : Policy) (direction : Direction) (r : List ℕ) : Type 0 where
  pub other : List ℕ
  pub is_record : IsRecord other
  pub cleared : IsCleared r other
  pub like : (v w : ℕ) → Says p r v → Says p other w → tells direction v w ≡ false
