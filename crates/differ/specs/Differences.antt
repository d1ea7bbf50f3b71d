-- All calls on which two profiles differ.
use Rattle.std.specs.Prelude.{◌≡◌, ℕ, ◌==◌, ◌&&◌, Bool, true, ◌⊎◌, List}
use Rattle.std.specs.List.{All, list_any}
use Rattle.profile.specs.Policy.{Policy}
use Rattle.differ.specs.OnCall.{AreCrowded, AreLikeOnCall, IsFound, is_for}
use Rattle.differ.specs.Direction.{tells}
use Rattle.differ.specs.declared.direction.Direction.{Direction}
use Rattle.differ.specs.declared.direction.Direction.TheVariants.{Any}
use Rattle.differ.specs.declared.gathered.Differences.{Differences}
use Rattle.differ.specs.declared.found.Found.{Found}
use Rattle.differ.specs.declared.named.Call.{Call}
use Rattle.differ.specs.Named.{is_named}

-- the record is of a call with this token, and the verdicts are unlike in the direction
abbrev pub is_with : ℕ → Direction → Found → Bool
is_with token direction f = (token == f.call.arch) && tells direction f.first f.second

-- it is of this call
abbrev pub is_on : ℕ → ℕ → Direction → Found → Bool
is_on token nr direction f = (nr == f.call.nr) && is_with token direction f

abbrev pub is_told : List Found → ℕ → ℕ → Direction → Bool
is_told list token nr direction = list_any (is_on token nr direction) list

abbrev pub is_told_with : List Found → ℕ → Direction → Bool
is_told_with list token direction = list_any (is_with token direction) list

abbrev pub has_token : List Call → ℕ → Bool
has_token list token = list_any (λ call. token == call.token) list

-- the profiles are not unlike in the direction on any record of the call, or one is found, or the call is crowded
abbrev pub IsAnswered : Policy → Policy → Differences → ℕ → ℕ → Direction → Type 0
IsAnswered p q d token nr direction =
    AreLikeOnCall p q token nr direction
    ⊎ ((is_told d.found.items token nr direction ≡ true) ⊎ (is_named d.crowded.items token nr ≡ true))

-- the same, where a record of another call with the token will do
abbrev pub IsCovered : Policy → Policy → Differences → ℕ → ℕ → Direction → Type 0
IsCovered p q d token nr direction =
    AreLikeOnCall p q token nr direction
    ⊎ ((is_told_with d.found.items token direction ≡ true) ⊎ (has_token d.crowded.items token ≡ true))

-- the profiles differ in the direction on the records that are found, and the other calls are crowded
pub record AreTold (p q : Policy) (direction : Direction) (d : Differences) : Type 0 where
  pub found : All (λ f. IsFound p q f.call.arch f.call.nr direction f) d.found.items
  pub crowded : All (λ call. AreCrowded p q call.token call.nr) d.crowded.items

-- Each call that differs is reported, in each direction. A call that is asked about, or that a rule of one of the profiles is for, is
-- reported by a record of itself. All others are reported by a record with their token. Only crowded calls are not settled.
pub record AreAll (p q : Policy) (asked : List Call) (d : Differences) : Type 0 where
  pub told : AreTold p q Any d
  pub of_asked : (token nr : ℕ) (direction : Direction) → is_named asked token nr ≡ true → IsAnswered p q d token nr direction
  pub of_first : (token nr : ℕ) (direction : Direction) → list_any (is_for token nr) p.rules ≡ true → IsAnswered p q d token nr direction
  pub of_second : (token nr : ℕ) (direction : Direction) → list_any (is_for token nr) q.rules ≡ true → IsAnswered p q d token nr direction
  pub others : (token nr : ℕ) (direction : Direction) → IsCovered p q d token nr direction

-- the same in one direction alone
pub record AreAllIn (p q : Policy) (direction : Direction) (d : Differences) : Type 0 where
  pub told : AreTold p q direction d
  pub of_first : (token nr : ℕ) → list_any (is_for token nr) p.rules ≡ true → IsAnswered p q d token nr direction
  pub of_second : (token nr : ℕ) → list_any (is_for token nr) q.rules ≡ true → IsAnswered p q d token nr direction
  pub others : (token nr : ℕ) → IsCovered p q d token nr direction
