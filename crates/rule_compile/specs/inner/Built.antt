-- How blocks are built.
use Rattle.std.specs.Prelude.{◌≡◌, ◌≤◌, ◌<◌, ◌^◌, ℕ, List, Some, length, slice_get}
use Rattle.call_record.specs.Words.{IsRecord}
use Rattle.rule_compile.specs.declared.asked.Open.{Open}
use Rattle.rule_compile.specs.declared.outline.Block.{Block}
use Rattle.rule_compile.specs.declared.question.Subject.{Subject}
use Rattle.rule_compile.specs.declared.ranges.Leaf.{Leaf}
use Rattle.rule_compile.specs.Decides.{Comes, Decides}
use Rattle.rule_compile.specs.Questions.{bits}
use Rattle.rule_compile.specs.Rules.{IsClearAt}
use Rattle.rule_compile.specs.inner.Left.{AreAlikeAt, AreSame}
use Rattle.rule_compile.specs.inner.Runs.{IsBefore}

-- the block at a place was built for these questions, whoever asks them
pub record IsKept (blocks : List Block) (os : List Open) (other : Leaf) (place : ℕ) : Type 0 where
  pub block : Block
  pub is : slice_get blocks place ≡ Some block
  pub same : AreSame block.rules.items os
  pub alike : block.other ≡ other

-- what decides the records whose bits get the replies that this number gets
pub record IsFoundAt (blocks : List Block) (os : List Open) (other : Leaf) (subject : Subject) (number : ℕ) (leaf : Leaf) : Type 0 where
  pub before : IsBefore (length blocks) leaf
  pub come : (r : List ℕ) → IsRecord r → IsClearAt os r → AreAlikeAt os subject number (bits subject r) → (v : ℕ)
      → Comes blocks os other r v → Decides blocks r v leaf

-- the ranges so far end where the range at this place begins
pub record IsReached (starts : List ℕ) (place end : ℕ) : Type 0 where
  pub start : place < length starts → slice_get starts place ≡ Some end
  pub all : length starts ≤ place → end ≡ 2 ^ 32
