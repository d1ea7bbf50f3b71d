-- What two bundles say alike beside their entries.
use Rattle.std.specs.Prelude.{◌≡◌, ℕ, List, [], map, Option, option_map}
use Rattle.serde_json.specs.Data.{Data}
use Rattle.profile_json.specs.Keys as key
use Rattle.profile_json.specs.Lookup.{list, member, or_default, text, whole}
use Rattle.profile_json.specs.Meaning.{IsSeccomp, IsText}

-- the list under a key, empty where there is none
abbrev pub list_at : List ℕ → Data → Option (List Data)
list_at k d = or_default [] (member list k d)

-- its members as texts
abbrev pub texts_at : List ℕ → Data → Option (List (Option (List ℕ)))
texts_at k d = option_map (map text) (list_at k d)

-- two sections have the same default action, with the same data, and the same names of machines
pub record IsSameHead (a b : Data) : Type 0 where
  pub action : member text key.default_action a ≡ member text key.default_action b
  pub errno : member whole key.default_errno_ret a ≡ member whole key.default_errno_ret b
  pub machines : texts_at key.architectures a ≡ texts_at key.architectures b

-- two values have such sections under linux.seccomp
pub record HaveSameHead (t u : Data) : Type 0 where
  pub first : Data
  pub first_is : IsSeccomp t first
  pub second : Data
  pub second_is : IsSeccomp u second
  pub same : IsSameHead first second

-- two texts are such values
pub record AreOfSameHead (bytes others : List ℕ) : Type 0 where
  pub t : Data
  pub is_text : IsText bytes t
  pub u : Data
  pub is_other : IsText others u
  pub same : HaveSameHead t u
