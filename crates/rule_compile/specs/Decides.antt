-- What blocks decide: the verdict that a record gets from a block on, or from what stands in a block's place.
use Rattle.std.specs.Prelude.{◌≡◌, ◌↔◌, ◌≤◌, ◌⊎◌, ◌+◌, ℕ, List, [], ◌∷◌, Some, slice_get}
use Rattle.std.specs.List.{Contains}
use Rattle.call_record.specs.Words.{IsRecord}
use Rattle.rule_compile.specs.declared.asked.Open.{Open}
use Rattle.rule_compile.specs.declared.outline.Block.{Block}
use Rattle.rule_compile.specs.declared.ranges.Leaf.{Leaf}
use Rattle.rule_compile.specs.declared.ranges.Leaf.TheVariants as leaf
use Rattle.rule_compile.specs.declared.ranges.Range.{Range}
use Rattle.rule_compile.specs.Questions.{bits}
use Rattle.rule_compile.specs.Rules.{IsClearAt, SomeMet}

-- the number is in the range
abbrev pub IsWithin : Range → ℕ → Type 0
IsWithin range u = (range.first ≤ u) × (u ≤ range.last)

-- the ranges follow one another from a number up to an end: each number between them is in one range
abbrev pub Tiles : ℕ → List Range → ℕ → Type 0
Tiles from [] end = from ≡ end
Tiles from (x ∷ xs) end = (x.first ≡ from) × (from ≤ x.last) × Tiles (x.last + 1) xs end

-- a verdict is what it says; a block goes on by the range that has its bits of the record
pub data Decides (blocks : List Block) (r : List ℕ) (v : ℕ) : Leaf → Type 0 where
  by_verdict : Decides blocks r v (leaf.Verdict v)
  by_block : (place : ℕ) (block : Block) (range : Range) → slice_get blocks place ≡ Some block → Contains block.ranges.items range
      → IsWithin range (bits block.subject r) → Decides blocks r v range.leaf → Decides blocks r v (leaf.Block place)

-- what questions come to: the verdict of a rule that is met, and where none is, what is gone on at
abbrev pub Comes : List Block → List Open → Leaf → List ℕ → ℕ → Type 0
Comes blocks os other r v = SomeMet os r v ⊎ (((w : ℕ) → SomeMet os r w → ⊥) × Decides blocks r v other)

-- what decides these questions: each record gets what they come to, and no other verdict
abbrev pub StandsFor : List Block → Leaf → List Open → Leaf → Type 0
StandsFor blocks leaf os other =
    (r : List ℕ) → IsRecord r → IsClearAt os r → (v : ℕ) → Decides blocks r v leaf ↔ Comes blocks os other r v

-- each record gets one verdict
abbrev pub DecidesOne : List Block → Leaf → Type 0
DecidesOne blocks leaf = (r : List ℕ) → IsRecord r → (v : ℕ) × Decides blocks r v leaf × ((w : ℕ) → Decides blocks r w leaf → w ≡ v)
