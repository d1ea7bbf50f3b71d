-- Calls that get past a profile, or are stopped by it, by bits that nobody reads.
use Rattle.std.specs.Prelude.{◌≡◌, ◌==◌, ◌&&◌, ◌⊎◌, ℕ, Bool, true, false, List, []}
use Rattle.std.specs.List.{All, list_any}
use Rattle.call_record.specs.Fate.{fate_of}
use Rattle.call_record.specs.Record.{words}
use Rattle.call_record.specs.Words.{IsRecord}
use Rattle.profile.specs.Policy.{Policy, Says}
use Rattle.differ.specs.Direction.{tells}
use Rattle.differ.specs.declared.direction.Direction.{Direction}
use Rattle.differ.specs.declared.direction.Direction.TheVariants.{More, Less}
use Rattle.differ.specs.OnCall.{IsOfCall, is_for}
use Rattle.differ.specs.Named.{is_named}
use Rattle.widths.specs.Alike.{Alike, IsCleared}
use Rattle.widths.specs.Crowded.{AreCrowded}
use Rattle.widths.specs.declared.unread_bits.past.Past.{Past}
use Rattle.widths.specs.declared.unread_bits.calls.AllPast.{AllPast}

-- The profile says verdicts of the call, and of the same call with the bits at 0 that are not read. They are unlike in the
-- direction. The two
-- calls are alike to the kernel.
pub record IsUnlike (p : Policy) (direction : Direction) (past : Past) : Type 0 where
  pub cleared : IsCleared (words past.call) (words past.cleared)
  pub alike : Alike (words past.call) (words past.cleared)
  pub says : Says p (words past.call) past.word
  pub says_cleared : Says p (words past.cleared) past.cleared_word
  pub unlike : tells direction past.word past.cleared_word ≡ true

-- the call goes further than the one with these bits at 0; it goes less far
abbrev pub GetsPast : Policy → Past → Type 0
GetsPast p past = IsUnlike p Less past

abbrev pub IsStopped : Policy → Past → Type 0
IsStopped p past = IsUnlike p More past

-- of the record and of the same with the bits at 0 that are not read, what the profile says is not unlike in the direction
abbrev pub IsLike : Policy → Direction → List ℕ → Type 0
IsLike p direction r = (s : List ℕ) → IsRecord s → IsCleared r s → (v w : ℕ) → Says p r v → Says p s w → tells direction v w ≡ false

-- nor is it of any record, or of any of a call
abbrev pub AllAreLike : Policy → Direction → Type 0
AllAreLike p direction = (r : List ℕ) → IsRecord r → IsLike p direction r

abbrev pub AreLikeOnCall : Policy → ℕ → ℕ → Direction → Type 0
AreLikeOnCall p token nr direction = (r : List ℕ) → IsOfCall token nr r → IsLike p direction r

-- no record gets past, and none is stopped
abbrev pub NothingGetsPast : Policy → Type 0
NothingGetsPast p = AllAreLike p Less

abbrev pub NothingIsStopped : Policy → Type 0
NothingIsStopped p = AllAreLike p More

-- Two records that are alike to the kernel go equally far: both are refused, both are left to a tracer or a listener, or both
-- are let through.
abbrev pub GoByWhatIsRead : Policy → Type 0
GoByWhatIsRead p = (r s : List ℕ) → IsRecord r → IsRecord s → Alike r s → (v w : ℕ) → Says p r v → Says p s w → fate_of v ≡ fate_of w

-- a call with this token and number, of which what is said is unlike
pub record IsUnlikeOf (p : Policy) (token nr : ℕ) (direction : Direction) (past : Past) : Type 0 where
  pub is_unlike : IsUnlike p direction past
  pub machine : past.call.arch ≡ token
  pub number : past.call.nr ≡ nr

abbrev pub is_past_of : ℕ → ℕ → Past → Bool
is_past_of token nr past = (nr == past.call.nr) && (token == past.call.arch)

-- no record of the call is unlike, or one is found, or the call is crowded
abbrev pub IsAnswered : Policy → Direction → AllPast → ℕ → ℕ → Type 0
IsAnswered p direction all token nr =
    AreLikeOnCall p token nr direction
    ⊎ ((list_any (is_past_of token nr) all.found.items ≡ true) ⊎ (is_named all.crowded.items token nr ≡ true))

-- what is found is unlike, and what is called crowded is
pub record AreTold (p : Policy) (direction : Direction) (all : AllPast) : Type 0 where
  pub found : All (IsUnlike p direction) all.found.items
  pub crowded : All (λ call. AreCrowded p call.token call.nr) all.crowded.items

-- Each call that a rule is for and that has an unlike record is found, or it is crowded. Where nothing is found and nothing is crowded, no
-- record is unlike.
pub record AreAllPast (p : Policy) (direction : Direction) (all : AllPast) : Type 0 where
  pub told : AreTold p direction all
  pub complete : (token nr : ℕ) → list_any (is_for token nr) p.rules ≡ true → IsAnswered p direction all token nr
  pub others : all.found.items ≡ [] → all.crowded.items ≡ [] → AllAreLike p direction
