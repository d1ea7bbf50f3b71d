-- Numbers that stand for all others where conditions on one argument are asked.
use Rattle.std.specs.Prelude.{◌≡◌, ℕ, ◌<◌, ◌^◌, ⊤, List, length, slice_index}
use Rattle.std.specs.List.{All, Contains}
use Rattle.profile.specs.declared.conditions.Cond.{Cond}
use Rattle.profile.specs.Said.{meets}
use Rattle.differ.specs.declared.listed.Unlisted.{Unlisted}
use Rattle.differ.specs.declared.listed.Unlisted.TheVariants.{TooMany, OutOfMemory}

-- each condition answers alike of two numbers
abbrev pub AreAlike : List Cond → ℕ → ℕ → Type 0
AreAlike conds u v = All (λ c. meets c u ≡ meets c v) conds

-- a number of the list is answered as this one is
abbrev pub IsMet : List Cond → List ℕ → ℕ → Type 0
IsMet conds list u = (v : ℕ) × Contains list v × AreAlike conds u v

-- no two numbers of the list are answered alike
abbrev pub AreApart : List Cond → List ℕ → Type 0
AreApart conds list = (i j : ℕ) → i < j → j < length list → AreAlike conds (slice_index list i) (slice_index list j) → ⊥

-- Numbers of so many bits, one for each way in which the conditions can answer. No two are answered alike, and each number is
-- answered as one of them is.
pub record AreCells (conds : List Cond) (bits : ℕ) (list : List ℕ) : Type 0 where
  pub within : All (λ u. u < 2 ^ bits) list
  pub each_is_met : (u : ℕ) → u < 2 ^ bits → IsMet conds list u
  pub each_is_apart : AreApart conds list

-- how many numbers are listed for one argument at most
abbrev pub most_cells : ℕ
most_cells = 1048576

-- the conditions can answer in more ways than are listed
pub record AreTooMany (conds : List Cond) (bits : ℕ) : Type 0 where
  pub list : List ℕ
  pub within : All (λ u. u < 2 ^ bits) list
  pub each_is_apart : AreApart conds list
  pub more : most_cells < length list

-- why there is no list
abbrev pub IsCause : List Cond → ℕ → Unlisted → Type 0
IsCause conds bits TooMany = AreTooMany conds bits
IsCause conds bits OutOfMemory = ⊤
