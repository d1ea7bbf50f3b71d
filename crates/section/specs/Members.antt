-- Members of objects of a text, in its order: a key may stand twice.
use Rattle.std.specs.Prelude.{ℕ, List, [], ◌∷◌}
use Rattle.json.specs.Json.{Json, null, boolean, number, string, array, object, Items, no_items, item}
use Rattle.json.specs.Strict.{keys}

-- the keys of an object
abbrev pub keys_of : Json → List (List ℕ)
keys_of null = []
keys_of (boolean b) = []
keys_of (number s) = []
keys_of (string s) = []
keys_of (array js) = []
keys_of (object ms) = keys ms

-- the members of a list
abbrev pub elements : Items → List Json
elements no_items = []
elements (item j js) = j ∷ elements js

abbrev pub list_of : Json → List Json
list_of null = []
list_of (boolean b) = []
list_of (number s) = []
list_of (string s) = []
list_of (array js) = elements js
list_of (object ms) = []
