-- Whether a bundle gets the hint that calls get past it, or are stopped by it.
use Rattle.std.specs.Prelude.{◌≡◌, ℕ, ◌≢◌, ◌⊎◌, true, false, List, IfSome}
use Rattle.std.specs.List.{list_any}
use Rattle.machines.specs.declared.arch.Arch.{Arch}
use Rattle.profile.specs.Policy.{Policy}
use Rattle.profile_json.specs.Breaks.{Breaks}
use Rattle.profile_json.specs.Fault.{fault_of}
use Rattle.profile_json.specs.declared.fault.ProfileError.{ProfileError}
use Rattle.profile_json.specs.declared.fault.ProfileError.TheVariants.{OutOfMemory}
use Rattle.differ.specs.declared.direction.Direction.{Direction}
use Rattle.differ.specs.declared.direction.Direction.TheVariants.{More, Less}
use Rattle.differ.specs.OnCall.{is_for}
use Rattle.widths.specs.Crowded.{AreCrowded}
use Rattle.widths.specs.Past.{AllAreLike, AreLikeOnCall, IsUnlike}
use Rattle.widths.specs.declared.unread_bits.past.Past.{Past}
use Rattle.widths.specs.Narrow.{IsBundle}
use Rattle.compare.specs.declared.lint.hints.Hinted.{Hinted}

-- the profile that the bundle means has a call that is unlike in the direction
abbrev pub SomeAreUnlike : Arch → List ℕ → Direction → Type 0
SomeAreUnlike native bundle direction = (p : Policy) × IsBundle native bundle p × (past : Past) × IsUnlike p direction past

-- some call is not decided, and of each other call that a rule is for, no record is unlike
pub record IsLeftOpen (p : Policy) (direction : Direction) : Type 0 where
  pub undecided : (token : ℕ) × (nr : ℕ) × AreCrowded p token nr
  pub others : (token nr : ℕ) → list_any (is_for token nr) p.rules ≡ true → AreLikeOnCall p token nr direction ⊎ AreCrowded p token nr

-- no record is unlike, as far as calls are decided
abbrev pub AreLikeAsDecided : Policy → Direction → Type 0
AreLikeAsDecided p direction = AllAreLike p direction ⊎ IsLeftOpen p direction

-- Why a bundle gets no hint. It is refused for a fault that it has. Or its profile has no unlike call, as far as it is decided.
pub data IsUnhinted (native : Arch) (bundle : List ℕ) (direction : Direction) : Type 0 where
  refused : (error : ProfileError) → error ≢ OutOfMemory → IfSome (fault_of error) (Breaks bundle native)
      → IsUnhinted native bundle direction
  decided : (p : Policy) → IsBundle native bundle p → AreLikeAsDecided p direction → IsUnhinted native bundle direction

-- what a hint tells is so: of the calls that get past, and of those that are stopped
pub record IsHint (native : Arch) (bundle : List ℕ) (hint : Hinted) : Type 0 where
  pub past : hint.past ≡ true → SomeAreUnlike native bundle Less
  pub not_past : hint.past ≡ false → IsUnhinted native bundle Less
  pub stopped : hint.stopped ≡ true → SomeAreUnlike native bundle More
  pub not_stopped : hint.stopped ≡ false → IsUnhinted native bundle More
