-- What is looked at of one call.
use Rattle.std.specs.Prelude.{◌≡◌, ℕ, ◌+◌, ◌*◌, ◌<◌, ◌^◌, ◌⊎◌, ◌++◌, ⊤, true, List, map, length, slice_index, slice_set}
use Rattle.std.specs.List.{All, Contains, flat_map, list_any}
use Rattle.call_record.specs.Words.{IsRecord, words_from}
use Rattle.profile.specs.declared.conditions.Cond.{Cond}
use Rattle.profile.specs.Policy.{Policy}
use Rattle.profile.specs.Rule.{argument_of}
use Rattle.profile.specs.Said.{said}
use Rattle.differ.specs.Cells.{AreAlike, AreCells, AreTooMany}
use Rattle.differ.specs.OnCall.{AreCrowded, IsOfCall, bits_of, conditions_on, is_for, most_combinations, rules_for}
use Rattle.differ.specs.Named.{is_named}
use Rattle.differ.specs.declared.listed.Unlisted.{Unlisted}
use Rattle.differ.specs.declared.listed.Unlisted.TheVariants.{TooMany, OutOfMemory}
use Rattle.differ.specs.declared.named.Call.{Call}
use Rattle.together.specs.Together.{together}
use Rattle.together.specs.declared.way.Way.{Way}

-- the conditions of a profile on an argument of a call
abbrev pub own_conditions : Call → ℕ → Policy → List Cond
own_conditions call j p = conditions_on j (rules_for call.token call.nr p.rules)

-- those of all profiles, and of one more
abbrev pub conditions_of : List Policy → Policy → Call → ℕ → List Cond
conditions_of ps q call j = flat_map (own_conditions call j) ps ++ own_conditions call j q

-- each of the first arguments of the record is answered as the one in the list is
abbrev pub IsLike : List Policy → Policy → Call → ℕ → List ℕ → List ℕ → Type 0
IsLike ps q call n r args = (j : ℕ) → j < n → AreAlike (conditions_of ps q call j) (argument_of r j) (slice_index args j)

-- six arguments of the call
pub record AreArguments (call : Call) (args : List ℕ) : Type 0 where
  pub six : length args ≡ 6
  pub small : (j : ℕ) → slice_index args j < 2 ^ bits_of call.token

-- lists of arguments, of which one stands for each record of the call, as far as its first arguments are asked about
pub record AreSamples (ps : List Policy) (q : Policy) (call : Call) (n : ℕ) (samples : List (List ℕ)) : Type 0 where
  pub fit : All (AreArguments call) samples
  pub each : (r : List ℕ) → IsOfCall call.token call.nr r → (args : List ℕ) × Contains samples args × IsLike ps q call n r args

-- n is the product of the numbers of ways in which the conditions on each of the first arguments can answer
pub data AreWays (ps : List Policy) (q : Policy) (call : Call) : ℕ → ℕ → Type 0 where
  none : AreWays ps q call 0 1
  more : (j n : ℕ) (list : List ℕ) → AreWays ps q call j n → AreCells (conditions_of ps q call j) (bits_of call.token) list
      → AreWays ps q call (j + 1) (n * length list)

-- there are more combinations than are looked at, already for some of the arguments or for one
abbrev pub IsCrowded : List Policy → Policy → Call → Type 0
IsCrowded ps q call =
    ((j : ℕ) × (n : ℕ) × AreWays ps q call j n × (most_combinations < n))
    ⊎ ((j : ℕ) × AreTooMany (conditions_of ps q call j) (bits_of call.token))

-- one of the profiles and q are crowded on the call
abbrev pub IsCrowdedBeside : List Policy → Policy → Call → Type 0
IsCrowdedBeside ps q call = (p : Policy) × Contains ps p × AreCrowded p q call.token call.nr

-- the call may be left undecided
abbrev pub MayBeLeft : List Policy → Policy → Call → Type 0
MayBeLeft ps q call = IsCrowdedBeside ps q call ⊎ IsCrowded ps q call

-- why there are no samples
abbrev pub AreUnsampled : List Policy → Policy → Call → Unlisted → Type 0
AreUnsampled ps q call TooMany = IsCrowded ps q call
AreUnsampled ps q call OutOfMemory = ⊤

-- each of these lists with each of these numbers at a place
abbrev pub widened : ℕ → List ℕ → List (List ℕ) → List (List ℕ)
widened j values samples = flat_map (λ args. map (λ v. slice_set args j v) values) samples

-- q says of the record what counts
abbrev pub AgreesOn : Way → List Policy → Policy → List ℕ → Type 0
AgreesOn way ps q r = said q r ≡ together way ps r

-- and of the one with these arguments
pub record AgreesAt (way : Way) (ps : List Policy) (q : Policy) (call : Call) (args : List ℕ) : Type 0 where
  pub is_record : IsRecord (words_from call.nr call.token 0 args)
  pub agrees : AgreesOn way ps q (words_from call.nr call.token 0 args)

-- and of each record of a call
abbrev pub AgreesOnCall : Way → List Policy → Policy → ℕ → ℕ → Type 0
AgreesOnCall way ps q token nr = (r : List ℕ) → IsOfCall token nr r → AgreesOn way ps q r

-- each call that a rule of the profile is for stands in the list
abbrev pub Names : List Call → Policy → Type 0
Names list p = (token nr : ℕ) → list_any (is_for token nr) p.rules ≡ true → is_named list token nr ≡ true
