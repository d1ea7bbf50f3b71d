-- The different rules of a list and their places.
use Rattle.std.specs.Prelude.{◌≡◌, ◌<◌, ◌≤◌, ℕ, List, length, Some, slice_get, slice_index, slice_index_or}
use Rattle.profile.specs.declared.rules.Rule.{Rule}
use Rattle.profile.specs.declared.fault.BuildError.{BuildError}
use Rattle.profile.specs.declared.fault.BuildError.TheVariants.{NativeMissing, MixedFamilies, ForeignRule, Overlap, TooMany, OutOfMemory}
use Rattle.profile.specs.Build.{KeepsOnce, AreTooMany}

-- the different rules, with the place of each in the list: its first
pub record KeepsAt (rules kept : List Rule) (places : List ℕ) : Type 0 where
  pub once : KeepsOnce rules kept
  pub as_many : length places ≡ length kept
  pub within : (k : ℕ) → k < length kept → slice_index places k < length rules
  pub at : (k : ℕ) (rule : Rule) → k < length kept → slice_index_or rules (slice_index places k) rule ≡ slice_index_or kept k rule
  pub rising : (i j : ℕ) → i < j → j < length places → slice_index places i < slice_index places j
  pub first : (n : ℕ) (rule : Rule) → slice_get rules n ≡ Some rule
      → (k : ℕ) × (slice_get kept k ≡ Some rule) × (slice_index places k ≤ n)

-- why the different rules are not kept
abbrev pub IsKeepError : List Rule → BuildError → Type 0
IsKeepError rules TooMany = AreTooMany rules
IsKeepError rules OutOfMemory = Unit {0}
IsKeepError rules NativeMissing = ⊥
IsKeepError rules MixedFamilies = ⊥
IsKeepError rules (ForeignRule i) = ⊥
IsKeepError rules (Overlap i j) = ⊥
