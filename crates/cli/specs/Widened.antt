-- What `learn` makes of a profile and logs together.
use Rattle.std.specs.Prelude.{ℕ, ◌≡◌, ◌||◌, Bool, true, false, List, [], ◌∷◌, Option, Some, None, codes, if◌then◌else◌}
use Rattle.std.specs.Str.{bytes_eq}
use Rattle.machines.specs.declared.arch.Arch.{Arch}
use Rattle.section.specs.Texts.{IsBundleText}
use Rattle.strace_logs.specs.Learned.{IsLearned}
use Rattle.strace_logs.specs.declared.lists.Otherwise.{Otherwise}
use Rattle.strace_logs.specs.declared.lists.Otherwise.TheVariants.{Kill}
use Rattle.strace_logs.specs.declared.lists.Runtime.{Runtime}
use Rattle.together.specs.Combined.{IsCombined}
use Rattle.together.specs.declared.way.Way.TheVariants.{Laxest}
use Rattle.wording.specs.Told.{was_done}
use Rattle.wording.specs.declared.told.Told.{Told}

-- the profile behind the word `from`, and the words behind it
abbrev pub from_in : List (List ℕ) → Option (List ℕ × List (List ℕ))
from_in [] = None
from_in (word ∷ []) = None
from_in (word ∷ profile ∷ words) = if bytes_eq word (codes "from") then Some (profile, words) else None

-- one of the words is `else`
abbrev pub asks_else : List (List ℕ) → Bool
asks_else [] = false
asks_else (word ∷ words) = bytes_eq word (codes "else") || asks_else words

-- What the logs say of calls that they do not show: what the words ask for, or else a kill. It is stricter than all that a profile says.
abbrev pub rest_of : List (List ℕ) → Otherwise → Otherwise
rest_of words otherwise = if asks_else words then otherwise else Kill

-- A profile that is learned from the texts and that of the file together. Each call record gets the laxest answer of the two, and of
-- equally strict ones that of the texts.
pub record IsWidened (native : Arch) (file : List ℕ) (texts : List (List ℕ)) (runtime : Option Runtime) (otherwise : Otherwise)
    (made : List ℕ) : Type 0 where
  pub bundle : List ℕ
  pub taken : IsBundleText native file bundle
  pub learned : List ℕ
  pub is : IsLearned native texts runtime otherwise learned
  pub both : IsCombined native Laxest (learned ∷ bundle ∷ []) made

abbrev pub TellsWidened : Arch → List ℕ → List (List ℕ) → Option Runtime → Otherwise → Told → Type 0
TellsWidened native file texts runtime otherwise told = was_done told.end ≡ true
    → IsWidened native file texts runtime otherwise told.bytes.items
