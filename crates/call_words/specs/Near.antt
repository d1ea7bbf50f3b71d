-- The names that are nearest to a word.
use Rattle.std.specs.Prelude.{ℕ, zero, suc, ◌≡◌, ◌<◌, ◌≤◌, ◌⊎◌, ◌==◌, nat_eq, nat_lt, Bool, true, false, if◌then◌else◌, List, [], ◌∷◌, ◌++◌}
use Rattle.std.specs.Prelude.{length, Option, Some, None, codes}
use Rattle.std.specs.Str.{chars}
use Rattle.strsim.specs.Edits.{levenshtein_row}
use Rattle.texts.specs.Lines.{space}

-- how many edits lead from one text to another: characters that are added, taken away or changed (Levenshtein)
unfoldable pub edits_between : List ℕ → List ℕ → ℕ
edits_between a b = levenshtein_row nat_eq (chars a) (chars b) (length (chars b))

-- so many edits are too far
abbrev pub far : ℕ
far = 3

-- a longer word is like no name
abbrev pub max_word : ℕ
max_word = 64

-- a name at one of the first places is so many edits away from the word
pub record IsReached (at : ℕ → Option (List ℕ)) (places : ℕ) (word : List ℕ) (edits : ℕ) : Type 0 where
  pub place : ℕ
  pub name : List ℕ
  pub below : place < places
  pub there : at place ≡ Some name
  pub counted : edits_between word name ≡ edits

-- the least number of edits from the word to a name at the first places, if it is less than what is far
pub record IsLeast (at : ℕ → Option (List ℕ)) (places : ℕ) (word : List ℕ) (edits : ℕ) : Type 0 where
  pub reached : (edits ≡ far) ⊎ IsReached at places word edits
  pub low : edits ≤ far
  pub least : (place : ℕ) (name : List ℕ) → place < places → at place ≡ Some name → edits ≤ edits_between word name

abbrev pub least_by : Bool → (ℕ → Option (List ℕ)) → ℕ → List ℕ → ℕ → Type 0
least_by true at places word edits = edits ≡ far
least_by false at places word edits = IsLeast at places word edits

-- the same; all names are far from a word that is too long
abbrev pub Least : (ℕ → Option (List ℕ)) → ℕ → List ℕ → ℕ → Type 0
Least at places word edits = least_by (nat_lt max_word (length word)) at places word edits

-- a name behind a space, if it is so many edits away from the word
abbrev pub near_name : List ℕ → ℕ → Option (List ℕ) → List ℕ
near_name word edits None = []
near_name word edits (Some name) = if edits_between word name == edits then space ∷ name else []

-- those at the first places, in order
unfoldable pub near_names : (ℕ → Option (List ℕ)) → ℕ → List ℕ → ℕ → List ℕ
near_names at zero word edits = []
near_names at (suc places) word edits = near_names at places word edits ++ near_name word edits (at places)

-- what is told of the nearest names, which are so many edits away
abbrev pub hint : (ℕ → Option (List ℕ)) → ℕ → List ℕ → ℕ → List ℕ
hint at places word edits = if nat_lt edits far then codes "; nearest:" ++ near_names at places word edits else []
