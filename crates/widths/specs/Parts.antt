-- Conditions that together stand for one condition on the lowest bits of its argument.
use Rattle.std.specs.Prelude.{◌≡◌, ◌↔◌, ℕ, ◌%◌, ◌^◌, ◌<◌, ◌≤◌, Bool, nat_le, List, [], ◌∷◌, length, if◌then◌else◌}
use Rattle.std.specs.List.{All}
use Rattle.profile.specs.declared.conditions.Cond.{Cond}
use Rattle.profile.specs.declared.conditions.Op.TheVariants.{MaskedEq}
use Rattle.profile.specs.Condition.{Meets}
use Rattle.widths.specs.Counts.{most_parts}
use Rattle.widths.specs.Narrowed.{Has}
use Rattle.widths.specs.Patterns.{HasPattern}
use Rattle.widths.specs.declared.narrowing.patterns.Pattern.{Pattern}

-- the lowest bits of a number; above 32 bits the whole
abbrev pub cut : ℕ → ℕ → ℕ
cut bits u = if nat_le bits 32 then u % 2 ^ bits else u

-- the condition looks at the lowest bits alone
pub record IsLow (bits : ℕ) (c : Cond) : Type 0 where
  pub op : c.op ≡ MaskedEq
  pub mask : c.value < 2 ^ bits

-- A number has one of the patterns just if its lowest bits are as asked. No pattern looks at others, and there are at most so many.
pub record ArePatterns (bits most : ℕ) (asked : ℕ → Type 0) (ps : List Pattern) : Type 0 where
  pub meets : (u : ℕ) → Has (HasPattern u) ps ↔ asked (u % 2 ^ bits)
  pub low : All (λ p. p.mask < 2 ^ bits) ps
  pub few : length ps ≤ most

-- conditions on one argument that hold of the numbers which have the patterns
pub record AreOfPatterns (argument : ℕ) (ps : List Pattern) (ds : List Cond) : Type 0 where
  pub meets : (u : ℕ) → Has (λ d. Meets d u) ds ↔ Has (HasPattern u) ps
  pub index : All (λ d. d.index ≡ argument) ds
  pub low : (bits : ℕ) → All (λ p. p.mask < 2 ^ bits) ps → All (IsLow bits) ds
  pub few : length ds ≤ length ps

-- a number meets one of the conditions where its lowest bits meet the condition
pub record AreParts (bits : ℕ) (c : Cond) (ds : List Cond) : Type 0 where
  pub meets : (u : ℕ) → Has (λ d. Meets d u) ds ↔ Meets c (cut bits u)
  pub index : All (λ d. d.index ≡ c.index) ds
  pub low : bits ≤ 32 → All (IsLow bits) ds
  pub kept : 32 < bits → ds ≡ c ∷ []
  pub few : length ds ≤ most_parts bits c
