-- By which of two profiles calls go further.
use Rattle.std.specs.Prelude.{◌≡◌, Bool, true, List}
use Rattle.std.specs.List.{list_any}
use Rattle.call_record.specs.Fate.{is_further}
use Rattle.compare.specs.NoMore.{AllowsNoMore}
use Rattle.profile.specs.Policy.{Policy}
use Rattle.compare.specs.declared.change.Change.{Change}
use Rattle.compare.specs.declared.difference.Difference.{Difference}
use Rattle.compare.specs.declared.sides.Sides.{Sides}
use Rattle.compare.specs.declared.sides.Sides.TheVariants.{Alike, NoMore, NoLess, MoreAndLess}

-- the call goes further by the first profile
abbrev pub is_less : Difference → Bool
is_less d = is_further d.first d.second

-- the call goes further by the second profile
abbrev pub is_more : Difference → Bool
is_more d = is_further d.second d.first

-- a call is told that goes less far now, or further
abbrev pub TellsLess : List Change → Type 0
TellsLess changes = list_any (λ c. is_less c.first) changes ≡ true

abbrev pub TellsMore : List Change → Type 0
TellsMore changes = list_any (λ c. is_more c.first) changes ≡ true

-- what is so of a first and a second profile, and shown by a call of each direction that is claimed
abbrev pub IsSides : Policy → Policy → List Change → Sides → Type 0
IsSides p q changes Alike = AllowsNoMore q p × AllowsNoMore p q
IsSides p q changes NoMore = AllowsNoMore q p × TellsLess changes
IsSides p q changes NoLess = AllowsNoMore p q × TellsMore changes
IsSides p q changes MoreAndLess = TellsMore changes × TellsLess changes
