-- What the outline of a plan says: what is asked where, and what follows where it is answered.
use Rattle.std.specs.Prelude.{◌≡◌, ◌<◌, ◌^◌, ◌⊎◌, ℕ, List, [], ◌∷◌, Some, length, slice_get, slice_index}
use Rattle.std.specs.List.{All}
use Rattle.call_record.specs.Words.{IsRecord}
use Rattle.profile.specs.declared.rules.Rule.{Rule}
use Rattle.profile.specs.Policy.{Policy}
use Rattle.profile.specs.Rule.{Matches}
use Rattle.profile.specs.Said.{said}
use Rattle.rule_compile.specs.declared.outline.Asked.{Asked}
use Rattle.rule_compile.specs.declared.outline.Asked.TheVariants.{InParts, Nothing}
use Rattle.rule_compile.specs.declared.outline.Block.{Block}
use Rattle.rule_compile.specs.declared.outline.Call.{Call}
use Rattle.rule_compile.specs.declared.outline.Outline.{Outline}
use Rattle.rule_compile.specs.declared.outline.Part.{Part}
use Rattle.rule_compile.specs.declared.ranges.Leaf.{Leaf}
use Rattle.rule_compile.specs.declared.ranges.Leaf.TheVariants as leaf
use Rattle.rule_compile.specs.Decides.{Decides, DecidesOne, StandsFor, Tiles}
use Rattle.rule_compile.specs.Rules.{IsClearAt, SomeMet}

-- the record is one of the call
pub record IsOfCall (call : Call) (r : List ℕ) : Type 0 where
  pub is_record : IsRecord r
  pub token : slice_index r 1 ≡ call.token
  pub number : slice_index r 0 ≡ call.number

-- each part stands for its questions, with the part before it where none of its rules is met; the last one is the whole
abbrev pub StandInTurn : List Block → Leaf → List Part → Leaf → Type 0
StandInTurn blocks other [] whole = whole ≡ other
StandInTurn blocks other (part ∷ parts) whole =
    StandsFor blocks part.leaf part.rules.items other × StandInTurn blocks part.leaf parts whole

-- What parts come to on a record: the verdict of a rule that it meets in the last of them. If it meets none there, it is what
-- the parts before come to, and at last another verdict.
abbrev pub ComeInTurn : (ℕ → Type 0) → List Part → List ℕ → ℕ → Type 0
ComeInTurn other [] r v = other v
ComeInTurn other (part ∷ parts) r v =
    ComeInTurn (λ w. SomeMet part.rules.items r w ⊎ (((u : ℕ) → SomeMet part.rules.items r u → ⊥) × other w)) parts r v

-- The questions of a call are asked in parts, behind which is the default verdict. The rules of a part that a record of the
-- call meets have one verdict, and the parts come to what the profile says.
pub record AreAsked (policy : Policy) (blocks : List Block) (call : Call) (parts : List Part) : Type 0 where
  pub stand : StandInTurn blocks (leaf.Verdict policy.default_word) parts call.leaf
  pub clear : (r : List ℕ) → IsOfCall call r → All (λ part. IsClearAt part.rules.items r) parts
  pub come : (r : List ℕ) → IsOfCall call r → ComeInTurn (λ w. w ≡ policy.default_word) parts r (said policy r)

-- nothing is asked of a call whose records all match the rule at a place
abbrev pub IsAskedOf : Policy → List Block → Call → Asked → Type 0
IsAskedOf policy blocks call (Nothing place) =
    (rule : Rule) × (slice_get policy.rules place ≡ Some rule) × ((r : List ℕ) → IsOfCall call r → Matches rule r)
IsAskedOf policy blocks call (InParts parts) = AreAsked policy blocks call parts.items

-- the leaf decides each record of the call as the profile says
pub record IsCallOf (policy : Policy) (blocks : List Block) (call : Call) : Type 0 where
  pub decides : (r : List ℕ) → IsOfCall call r → Decides blocks r (said policy r) call.leaf
  pub asked : IsAskedOf policy blocks call call.asked

-- The ranges of each block hold each number of 32 bits once, and each block gives each record one verdict. It stands for the questions that
-- are open there.
pub record IsOutlineOf (policy : Policy) (outline : Outline) : Type 0 where
  pub blocks : (place : ℕ) (block : Block) → slice_get outline.blocks.items place ≡ Some block
      → StandsFor outline.blocks.items (leaf.Block place) block.rules.items block.other
  pub ranges : All (λ block. Tiles 0 block.ranges.items (2 ^ 32)) outline.blocks.items
  pub one : (place : ℕ) → place < length outline.blocks.items → DecidesOne outline.blocks.items (leaf.Block place)
  pub calls : All (IsCallOf policy outline.blocks.items) outline.calls.items
