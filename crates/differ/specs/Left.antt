-- What is left of profiles where the high bits of arguments are known, and what it says of the rest.
use Rattle.std.specs.Prelude.{◌≡◌, ◌≢◌, ℕ, ◌+◌, ◌*◌, ◌<◌, ◌≤◌, ◌^◌, ◌==◌, Bool, true, false, List, [], ◌∷◌, if◌then◌else◌}
use Rattle.std.specs.List.{list_all, list_any}
use Rattle.differ.specs.Asked.{holds}
use Rattle.differ.specs.Direction.{tells}
use Rattle.differ.specs.declared.direction.Direction.{Direction}
use Rattle.differ.specs.declared.left.Part.{Part}
use Rattle.differ.specs.declared.left.Rest.{Rest}
use Rattle.differ.specs.declared.left.Side.{Side}

-- arguments meet a part, and all parts of a rule
abbrev pub holds_of : (ℕ → ℕ) → Part → Bool
holds_of a part = holds part.ask (a part.index)

abbrev pub are_met : List Part → (ℕ → ℕ) → Bool
are_met parts a = list_all (holds_of a) parts

-- the verdict of the last rule that is met, or this one where none is
abbrev pub verdict : ℕ → List Rest → (ℕ → ℕ) → ℕ
verdict last [] a = last
verdict last (rest ∷ rules) a = verdict (if are_met rest.parts.items a then rest.word else last) rules a

abbrev pub side_says : Side → (ℕ → ℕ) → ℕ
side_says side a = verdict side.last side.rules.items a

abbrev pub has_part_on : ℕ → Rest → Bool
has_part_on index rest = list_any (λ part. part.index == index) rest.parts.items

-- b is a with a bit more at a place of one argument. In a that argument is below the place.
pub record IsRaised (index place bit : ℕ) (a b : ℕ → ℕ) : Type 0 where
  pub small : a index < 2 ^ place
  pub here : b index ≡ bit * 2 ^ place + a index
  pub others : (i : ℕ) → i ≢ index → b i ≡ a i

-- b is a with 0 in the place of one argument. In a that argument has so many bits.
pub record IsWithout (index rest : ℕ) (a b : ℕ → ℕ) : Type 0 where
  pub small : a index < 2 ^ rest
  pub here : b index ≡ 0
  pub others : (i : ℕ) → i ≢ index → b i ≡ a i

-- the first arguments are 0, one has so many bits, later ones have all, and there are six
pub record AreWithin (bits index rest : ℕ) (a : ℕ → ℕ) : Type 0 where
  pub past : (i : ℕ) → i < index → a i ≡ 0
  pub here : a index < 2 ^ rest
  pub later : (i : ℕ) → index < i → i < 6 → a i < 2 ^ bits
  pub beyond : (i : ℕ) → 6 ≤ i → a i ≡ 0

-- what both sides say of such arguments is never unlike in the direction
abbrev pub AreNeverUnlike : Direction → ℕ → ℕ → ℕ → Side → Side → Type 0
AreNeverUnlike direction bits index rest one other =
    (a : ℕ → ℕ) → AreWithin bits index rest a → tells direction (side_says one a) (side_says other a) ≡ false

-- what they say of these arguments is
pub record AreUnlikeAt (direction : Direction) (bits index rest : ℕ) (one other : Side) (a : ℕ → ℕ) : Type 0 where
  pub within : AreWithin bits index rest a
  pub unlike : tells direction (side_says one a) (side_says other a) ≡ true
