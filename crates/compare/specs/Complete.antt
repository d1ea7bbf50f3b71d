-- Which calls the lines tell, and that none is left out.
use Rattle.std.specs.Prelude.{◌≡◌, ◌==◌, ◌&&◌, ◌⊎◌, ℕ, Bool, true, List, ◌∷◌}
use Rattle.std.specs.List.{All, list_any, flat_map}
use Rattle.machines.specs.declared.arch.Family.{Family}
use Rattle.wording.specs.Phrases.{machine_with}
use Rattle.profile.specs.Policy.{Policy}
use Rattle.differ.specs.Direction.{tells}
use Rattle.differ.specs.OnCall.{AreCrowded, AreLikeOnCall, is_for}
use Rattle.differ.specs.declared.direction.Direction.{Direction}
use Rattle.compare.specs.Difference.{IsChange}
use Rattle.compare.specs.declared.change.Change.{Change}
use Rattle.compare.specs.declared.difference.Difference.{Difference}
use Rattle.compare.specs.declared.search.Crowded.{Crowded}

-- the records of a line, and of all lines
abbrev pub differences_in : Change → List Difference
differences_in c = c.first ∷ c.others.items

abbrev pub told_of : List Change → List Difference
told_of changes = flat_map differences_in changes

-- the record is of a call with this token, and the verdicts are unlike in the direction
abbrev pub is_with : ℕ → Direction → Difference → Bool
is_with token direction d = (token == d.token) && tells direction d.first d.second

-- it is of this call
abbrev pub is_on : ℕ → ℕ → Direction → Difference → Bool
is_on token nr direction d = (nr == d.nr) && is_with token direction d

-- two records are of one call, and the same verdicts are said of them
abbrev pub is_same : Difference → Difference → Bool
is_same one other = (one.token == other.token) && ((one.nr == other.nr) && ((one.first == other.first) && (one.second == other.second)))

abbrev pub is_crowded_with : ℕ → Crowded → Bool
is_crowded_with token c = token == c.token

abbrev pub is_crowded : ℕ → ℕ → Crowded → Bool
is_crowded token nr c = (token == c.token) && (nr == c.nr)

-- the call is crowded, and its machine is told by token and number
pub record IsCrowded (family : Family) (p q : Policy) (c : Crowded) : Type 0 where
  pub machine : c.arch ≡ machine_with family c.token c.nr
  pub is : AreCrowded p q c.token c.nr

-- the profiles are not unlike in the direction on any record of the call, or a line tells one, or the call is crowded
abbrev pub IsAnswered : Policy → Policy → List Change → List Crowded → ℕ → ℕ → Direction → Type 0
IsAnswered p q changes crowded token nr direction =
    AreLikeOnCall p q token nr direction
    ⊎ ((list_any (is_on token nr direction) (told_of changes) ≡ true) ⊎ (list_any (is_crowded token nr) crowded ≡ true))

-- the same, where a record of another call with the token will do
abbrev pub IsCovered : Policy → Policy → List Change → List Crowded → ℕ → ℕ → Direction → Type 0
IsCovered p q changes crowded token nr direction =
    AreLikeOnCall p q token nr direction
    ⊎ ((list_any (is_with token direction) (told_of changes) ≡ true) ⊎ (list_any (is_crowded_with token) crowded ≡ true))

-- Each call that differs is reported in each direction. Those that a rule of one of the profiles is for are reported by a record of the
-- call itself. All others are reported by a record with their token. Only crowded calls are not settled.
pub record AreComplete (p q : Policy) (changes : List Change) (crowded : List Crowded) : Type 0 where
  pub of_first : (token nr : ℕ) (direction : Direction) → list_any (is_for token nr) p.rules ≡ true
      → IsAnswered p q changes crowded token nr direction
  pub of_second : (token nr : ℕ) (direction : Direction) → list_any (is_for token nr) q.rules ≡ true
      → IsAnswered p q changes crowded token nr direction
  pub others : (token nr : ℕ) (direction : Direction) → IsCovered p q changes crowded token nr direction

-- what is so of the lines and of the crowded calls
pub record AreListed (family : Family) (p q : Policy) (changes : List Change) (crowded : List Crowded) : Type 0 where
  pub are_changes : All (IsChange family p q) changes
  pub are_crowded : All (IsCrowded family p q) crowded
  pub complete : AreComplete p q changes crowded
