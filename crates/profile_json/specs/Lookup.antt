-- What a member of an object is.
use Rattle.std.specs.Prelude.{ℕ, List, [], ◌∷◌, Option, Some, None, is_some, option_and_then, option_map, if◌then◌else◌}
use Rattle.serde_json.specs.Data.{Data, Items, no_items, item}
use Rattle.serde_json.specs.Find.{get, as_str, as_number, as_u64, as_array, as_object}

-- the values of an array, in order
abbrev pub elements : Items → List Data
elements no_items = []
elements (item d ds) = d ∷ elements ds

-- a value as an object, a text, a whole number (without a sign, below 2 ^ 64) and a list
abbrev pub object : Data → Option Data
object d = if is_some (as_object d) then Some d else None

abbrev pub text : Data → Option (List ℕ)
text d = as_str d

abbrev pub whole : Data → Option ℕ
whole d = option_and_then as_u64 (as_number d)

abbrev pub list : Data → Option (List Data)
list d = option_map elements (as_array d)

pub data Member (A : Type 0) : Type 0 where
  missing : Member A
  other_type : Member A
  holds : A → Member A

abbrev pub member_of : {A : Type 0} → Option A → Member A
member_of None = other_type
member_of (Some x) = holds x

abbrev pub seen_as : {A : Type 0} → (Data → Option A) → Option Data → Member A
seen_as as_it None = missing
seen_as as_it (Some d) = member_of (as_it d)

-- the member under a key, which should be an object, a text, and so on
abbrev pub member : {A : Type 0} → (Data → Option A) → List ℕ → Data → Member A
member as_it key d = seen_as as_it (get key d)

-- A member that may be missing, and is then x. None: it is of another type.
abbrev pub or_default : {A : Type 0} → A → Member A → Option A
or_default x missing = Some x
or_default x other_type = None
or_default x (holds y) = Some y
