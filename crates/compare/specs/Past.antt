-- Calls that get past a profile, calls that are stopped by it, and those of which it is not decided, as lines tell them.
use Rattle.std.specs.Prelude.{◌≡◌, ◌≢◌, ◌⊎◌, ℕ, true, List, []}
use Rattle.std.specs.List.{All, list_any}
use Rattle.machines.specs.declared.arch.Family.{Family}
use Rattle.wording.specs.Phrases.{machine_with}
use Rattle.differ.specs.declared.direction.Direction.{Direction}
use Rattle.differ.specs.declared.direction.Direction.TheVariants.{More, Less}
use Rattle.differ.specs.OnCall.{is_for}
use Rattle.widths.specs.Crowded.{AreCrowded}
use Rattle.widths.specs.Past.{AllAreLike, AreLikeOnCall, IsUnlike, NothingGetsPast, NothingIsStopped, is_past_of}
use Rattle.widths.specs.declared.unread_bits.past.Past.{Past}
use Rattle.profile.specs.Policy.{Policy}
use Rattle.compare.specs.Complete.{is_crowded}
use Rattle.compare.specs.declared.lint.past.Finding.{Finding}
use Rattle.compare.specs.declared.lint.past.Finding.TheVariants.{Nothing, Unlike, Undecided}
use Rattle.compare.specs.declared.search.Crowded.{Crowded}

-- the call is crowded, and its machine is told by token and number
pub record IsUndecided (family : Family) (p : Policy) (c : Crowded) : Type 0 where
  pub machine : c.arch ≡ machine_with family c.token c.nr
  pub is : AreCrowded p c.token c.nr

-- Each call that a rule is for and that has a record which is unlike in the direction is among these, or it is crowded. Where nothing is
-- crowded and none is told, no record is.
pub record ArePast (family : Family) (p : Policy) (direction : Direction) (list : List Past) (crowded : List Crowded) : Type 0 where
  pub past : All (IsUnlike p direction) list
  pub are_crowded : All (IsUndecided family p) crowded
  pub complete : (token nr : ℕ) → list_any (is_for token nr) p.rules ≡ true
      → AreLikeOnCall p token nr direction
      ⊎ ((list_any (is_past_of token nr) list ≡ true) ⊎ (list_any (is_crowded token nr) crowded ≡ true))
  pub others : list ≡ [] → crowded ≡ [] → AllAreLike p direction

-- the first ones get past, the second ones are stopped, and so are no others
pub record AreBoth (family : Family) (p : Policy) (these those : List Past) (crowded : List Crowded) : Type 0 where
  pub past : ArePast family p Less these crowded
  pub stopped : ArePast family p More those crowded

-- what is found is so
abbrev pub IsFinding : Family → Policy → Finding → Type 0
IsFinding family p Nothing = NothingGetsPast p × NothingIsStopped p
IsFinding family p (Unlike past stopped) = AreBoth family p past.items stopped.items [] × ((past.items ≢ []) ⊎ (stopped.items ≢ []))
IsFinding family p (Undecided past stopped crowded) = AreBoth family p past.items stopped.items crowded.items × (crowded.items ≢ [])
