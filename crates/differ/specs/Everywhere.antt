-- What two profiles say of all records.
use Rattle.std.specs.Prelude.{ℕ, List}
use Rattle.call_record.specs.Words.{IsRecord}
use Rattle.profile.specs.Policy.{Policy}
use Rattle.differ.specs.OnCall.{AreLikeOn}
use Rattle.differ.specs.declared.direction.Direction.{Direction}

-- verdicts that the profiles say of a record are never unlike in this direction
abbrev pub AreLike : Policy → Policy → Direction → Type 0
AreLike p q direction = (r : List ℕ) → IsRecord r → AreLikeOn p q direction r
