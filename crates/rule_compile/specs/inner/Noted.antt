-- What is noted of calls, and of the parts in which their questions are asked.
use Rattle.std.specs.Prelude.{◌≡◌, ℕ, ⊤, true, List, [], ◌∷◌, ◌++◌, length}
use Rattle.std.specs.List.{All, Contains}
use Rattle.call_record.specs.Words.{IsRecord}
use Rattle.profile.specs.declared.rules.Rule.{Rule}
use Rattle.profile.specs.Policy.{Policy}
use Rattle.rule_compile.specs.declared.asked.Open.{Open}
use Rattle.rule_compile.specs.declared.asked.Placed.{Placed}
use Rattle.rule_compile.specs.declared.asked.Rest.{Rest}
use Rattle.rule_compile.specs.declared.asked.Rest.TheVariants as rest
use Rattle.rule_compile.specs.declared.blocks.Blocks.{Blocks}
use Rattle.rule_compile.specs.declared.known.Span.{Span}
use Rattle.rule_compile.specs.declared.outline.Asked.{Asked}
use Rattle.rule_compile.specs.declared.outline.Asked.TheVariants.{InParts, Nothing}
use Rattle.rule_compile.specs.declared.outline.Block.{Block}
use Rattle.rule_compile.specs.declared.outline.Call.{Call}
use Rattle.rule_compile.specs.declared.outline.Part.{Part}
use Rattle.rule_compile.specs.declared.ranges.Leaf.{Leaf}
use Rattle.rule_compile.specs.declared.ranges.Leaf.TheVariants as leaf
use Rattle.rule_compile.specs.Outline.{IsCallOf}
use Rattle.rule_compile.specs.Rules.{SomeMet, begins_here}
use Rattle.rule_compile.specs.inner.Left.{AreHeld, SomeHeld}
use Rattle.rule_compile.specs.inner.Runs.{IsBefore}
use Rattle.rule_compile.specs.inner.Stands.{AreAmong, AreSpans, AreThose, DecidesRules, IsFound, part_of}

-- ---- parts

-- some questions stand among others from a place on, with whole rules behind them
pub record StandAmong (os part : List Open) (start : ℕ) : Type 0 where
  pub before : List Open
  pub behind : List Open
  pub is : os ≡ before ++ (part ++ behind)
  pub at : length before ≡ start
  pub begins : begins_here behind ≡ true

abbrev pub span_of : ℕ → ℕ → Leaf → Span
span_of start count leaf = record { start = start; count = count; leaf = leaf }

-- more spans were noted, of questions that stand among others
pub record AreNoted (blocks : List Block) (old new : List Span) (part : List Open) (start : ℕ) (other whole : Leaf) : Type 0 where
  pub more : List Span
  pub is : new ≡ old ++ more
  pub spans : (os : List Open) → StandAmong os part start → AreSpans blocks os other more whole

-- a part for each span
abbrev pub AreBySpans : List Open → List Span → List Part → Type 0
AreBySpans os [] [] = ⊤
AreBySpans os [] (part ∷ parts) = ⊥
AreBySpans os (span ∷ spans) [] = ⊥
AreBySpans os (span ∷ spans) (part ∷ parts) =
    (part.rules.items ≡ part_of os span) × (part.leaf ≡ span.leaf) × AreBySpans os spans parts

-- the parts of questions, as the spans
abbrev pub ArePartsOf : List Block → List Open → Leaf → List Part → Leaf → Type 0
ArePartsOf blocks os other [] whole = whole ≡ other
ArePartsOf blocks os other (part ∷ parts) whole =
    IsFound blocks part.rules.items other part.leaf × AreAmong part.rules.items os × ArePartsOf blocks os part.leaf parts whole

-- ---- calls

-- where a rule holds, it is the one at the place, of each record
abbrev pub IsMetAt : List Placed → Rest → Type 0
IsMetAt rules (rest.Met place w) =
    (placed : Placed) × Contains rules placed × (placed.place ≡ place) × ((r : List ℕ) → IsRecord r → AreHeld placed r)
IsMetAt rules (rest.Open os) = ⊤

-- what is asked of the rules of a call
abbrev pub AsksOf : List Block → List Placed → ℕ → Leaf → Asked → Type 0
AsksOf blocks rules default whole (Nothing place) =
    (placed : Placed) × Contains rules placed × (placed.place ≡ place) × ((r : List ℕ) → IsRecord r → AreHeld placed r)
AsksOf blocks rules default whole (InParts parts) =
    (os : List Open) × ArePartsOf blocks os (leaf.Verdict default) parts.items whole
    × ((r : List ℕ) → IsRecord r → (w : ℕ) → SomeMet os r w → SomeHeld rules r w)

-- a call more
pub record IsNext (old new : Blocks) (token number : ℕ) (whole : Leaf) (asked : Asked) : Type 0 where
  pub call : Call
  pub is : new.calls.items ≡ old.calls.items ++ call ∷ []
  pub token_is : call.token ≡ token
  pub number_is : call.number ≡ number
  pub leaf_is : call.leaf ≡ whole
  pub asked_is : call.asked ≡ asked

-- a call with these rules was noted
pub record NotesCall (old new : Blocks) (rules : List Placed) (token number default : ℕ) : Type 0 where
  pub call : Call
  pub is : new.calls.items ≡ old.calls.items ++ call ∷ []
  pub token_is : call.token ≡ token
  pub number_is : call.number ≡ number
  pub decides : DecidesRules new.blocks.items rules default call.leaf
  pub asks : AsksOf new.blocks.items rules default call.leaf call.asked

-- of a number nothing was noted, or a call with the rules for it
pub data NotesNumber (old new : Blocks) (rules : List Rule) (token number default : ℕ) : Type 0 where
  no_call : new.calls.items ≡ old.calls.items → NotesNumber old new rules token number default
  one_call : (own : List Placed) → AreThose rules token number own → NotesCall old new own token number default
      → NotesNumber old new rules token number default

-- each part goes on at a block that is there
abbrev pub AreEarly : ℕ → Asked → Type 0
AreEarly count (Nothing place) = ⊤
AreEarly count (InParts parts) = All (λ part. IsBefore count part.leaf) parts.items

pub record IsKnownCall (policy : Policy) (blocks : List Block) (call : Call) : Type 0 where
  pub is : IsCallOf policy blocks call
  pub parts : AreEarly (length blocks) call.asked

-- the calls that are noted
abbrev pub AreCalls : Policy → Blocks → Type 0
AreCalls policy blocks = All (IsKnownCall policy blocks.blocks.items) blocks.calls.items
