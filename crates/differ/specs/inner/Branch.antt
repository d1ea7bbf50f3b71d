-- Numbers by their high bits, and what the conditions say of those.
use Rattle.std.specs.Prelude.{◌≡◌, ℕ, ◌<◌, ◌≤◌, ◌/◌, ◌^◌, ⊤, List, length}
use Rattle.std.specs.Int.{bit_at}
use Rattle.std.specs.List.{All}
use Rattle.profile.specs.declared.conditions.Cond.{Cond}
use Rattle.profile.specs.declared.conditions.Op.TheVariants.{MaskedEq}
use Rattle.profile.specs.Said.{meets}
use Rattle.differ.specs.Cells.{AreAlike, AreApart, IsMet, most_cells}
use Rattle.differ.specs.declared.listed.Unlisted.{Unlisted}
use Rattle.differ.specs.declared.listed.Unlisted.TheVariants.{TooMany, OutOfMemory}

-- the numbers of a list begin with these high bits, and so many follow
abbrev pub AllBegin : ℕ → ℕ → List ℕ → Type 0
AllBegin high rest list = All (λ v. v / 2 ^ rest ≡ high) list

-- one number for each way in which the conditions can answer of those that begin with these bits
pub record AreBranch (conds : List Cond) (high rest : ℕ) (list : List ℕ) : Type 0 where
  pub begin : AllBegin high rest list
  pub met : (u : ℕ) → u / 2 ^ rest ≡ high → IsMet conds list u
  pub apart : AreApart conds list

-- more numbers that begin so are apart than are listed
pub record AreMany (conds : List Cond) (high rest : ℕ) : Type 0 where
  pub list : List ℕ
  pub begin : AllBegin high rest list
  pub apart : AreApart conds list
  pub more : most_cells < length list

-- the condition answers alike of all numbers that begin with these bits
abbrev pub IsDecided : ℕ → ℕ → Cond → Type 0
IsDecided high rest c = (u v : ℕ) → u / 2 ^ rest ≡ high → v / 2 ^ rest ≡ high → meets c u ≡ meets c v

-- of numbers that begin with these bits the conditions on one side say all that those on the other do
pub record Narrows (high rest : ℕ) (conds kept : List Cond) : Type 0 where
  pub enough : (u v : ℕ) → u / 2 ^ rest ≡ high → v / 2 ^ rest ≡ high → AreAlike kept u v → AreAlike conds u v
  pub fewer : (u v : ℕ) → AreAlike conds u v → AreAlike kept u v

-- the condition is one under a mask that has not the bit at a place
abbrev pub Overlooks : ℕ → Cond → Type 0
Overlooks place c = (c.op ≡ MaskedEq) × (bit_at c.value place ≡ 0)

-- why numbers that begin with these bits were not listed
abbrev pub IsFull : List Cond → ℕ → ℕ → Unlisted → Type 0
IsFull conds high rest TooMany = AreMany conds high rest
IsFull conds high rest OutOfMemory = ⊤

-- why a number was not added
abbrev pub IsUnadded : List ℕ → Unlisted → Type 0
IsUnadded list TooMany = most_cells ≤ length list
IsUnadded list OutOfMemory = ⊤
