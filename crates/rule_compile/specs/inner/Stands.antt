-- What blocks are, and what they stand for.
use Rattle.std.specs.Prelude.{◌≡◌, ◌≤◌, ◌^◌, ◌++◌, ◌⊎◌, ℕ, List, [], ◌∷◌, IfSome, Option, Some, drop, length, slice_get, slice_index, take}
use Rattle.std.specs.Option.{IsSomeAnd}
use Rattle.std.specs.List.{All, Any, Contains}
use Rattle.call_record.specs.Words.{IsRecord}
use Rattle.bpf_insn.specs.declared.instruction.Insn.{Insn}
use Rattle.machines.specs.declared.arch.Arch.{Arch}
use Rattle.machines.specs.Arch.{token_of}
use Rattle.profile.specs.declared.rules.Rule.{Rule}
use Rattle.profile.specs.Latest.{StandsAt}
use Rattle.profile.specs.Policy.{Policy}
use Rattle.profile.specs.Rule.{Matches}
use Rattle.profile.specs.Said.{said}
use Rattle.rule_compile.specs.declared.blocks.Blocks.{Blocks}
use Rattle.rule_compile.specs.declared.asked.Open.{Open}
use Rattle.rule_compile.specs.declared.asked.Placed.{Placed}
use Rattle.rule_compile.specs.declared.label.Target.{Target}
use Rattle.rule_compile.specs.declared.known.Known.{Known}
use Rattle.rule_compile.specs.declared.known.Span.{Span}
use Rattle.rule_compile.specs.declared.outline.Block.{Block}
use Rattle.rule_compile.specs.declared.question.Subject.{Subject}
use Rattle.rule_compile.specs.declared.ranges.Leaf.{Leaf}
use Rattle.rule_compile.specs.declared.ranges.Leaf.TheVariants as leaf
use Rattle.rule_compile.specs.declared.ranges.Range.{Range}
use Rattle.rule_compile.specs.Decides.{Comes, Decides, IsWithin, Tiles}
use Rattle.rule_compile.specs.Questions.{bits}
use Rattle.rule_compile.specs.Rules.{IsClearAt, SomeMet}
use Rattle.rule_compile.specs.inner.Calls.{IsOneOf}
use Rattle.rule_compile.specs.inner.Left.{IsOffset, SomeHeld}
use Rattle.rule_compile.specs.inner.Numbers.{IsFor}
use Rattle.rule_compile.specs.inner.Runs.{AreBefore, IsBefore, runs}

-- a block asks for bits of a word, its ranges have all numbers, and it goes on at blocks before it
pub record IsBlock (place : ℕ) (block : Block) : Type 0 where
  pub offset : IsOffset block.subject.word
  pub tiles : Tiles 0 block.ranges.items (2 ^ 32)
  pub before : AreBefore place block.ranges.items
  pub goes_on : IsBefore place block.other

abbrev pub AreBlocks : List Block → Type 0
AreBlocks blocks = (place : ℕ) (block : Block) → slice_get blocks place ≡ Some block → IsBlock place block

-- the leaf decides what the questions come to
abbrev pub DecidesFor : List Block → Leaf → List Open → Leaf → Type 0
DecidesFor blocks leaf os other =
    (r : List ℕ) → IsRecord r → IsClearAt os r → (v : ℕ) → Comes blocks os other r v → Decides blocks r v leaf

-- each block stands for its rules and what it goes on at where none is met
abbrev pub BlocksStand : List Block → Type 0
BlocksStand blocks =
    (place : ℕ) (block : Block) → slice_get blocks place ≡ Some block
    → DecidesFor blocks (leaf.Block place) block.rules.items block.other

-- what is found for some questions
pub record IsFound (blocks : List Block) (os : List Open) (other leaf : Leaf) : Type 0 where
  pub before : IsBefore (length blocks) leaf
  pub stands : DecidesFor blocks leaf os other

-- the questions of a span
abbrev pub part_of : List Open → Span → List Open
part_of os span = take span.count (drop span.start os)

-- each rule of the one questions that a record meets is one of the others
abbrev pub AreAmong : List Open → List Open → Type 0
AreAmong part os = (r : List ℕ) (w : ℕ) → SomeMet part r w → SomeMet os r w

-- spans of questions, each with what was found for it, where the span before it is gone on at; the last one is the whole
abbrev pub AreSpans : List Block → List Open → Leaf → List Span → Leaf → Type 0
AreSpans blocks os other [] whole = whole ≡ other
AreSpans blocks os other (span ∷ spans) whole =
    IsFound blocks (part_of os span) other span.leaf × AreAmong (part_of os span) os × AreSpans blocks os span.leaf spans whole

-- the same of what is known of questions
pub record KnownStands (blocks : List Block) (known : Known) : Type 0 where
  pub before : IsBefore (length blocks) known.leaf
  pub goes_on : IsBefore (length blocks) known.other
  pub stands : DecidesFor blocks known.leaf known.asked.items known.other
  pub spans : AreSpans blocks known.asked.items known.other known.spans.items known.leaf

pub record AreSound (blocks : Blocks) : Type 0 where
  pub blocks_are : AreBlocks blocks.blocks.items
  pub stand : BlocksStand blocks.blocks.items
  pub known : All (KnownStands blocks.blocks.items) blocks.known.items

-- more blocks behind those that there were
pub record HasMore (old new : List Block) : Type 0 where
  pub more : List Block
  pub is : new ≡ old ++ more

-- the ranges of a block so far: those up to an end have what the questions come to
pub record AreRanged (blocks : List Block) (os : List Open) (other : Leaf) (s : Subject) (ranges : List Range) (end : ℕ) : Type 0 where
  pub tiles : Tiles 0 ranges end
  pub before : AreBefore (length blocks) ranges
  pub come : All (λ range. (r : List ℕ) → IsRecord r → IsClearAt os r → IsWithin range (bits s r) → (v : ℕ) → Comes blocks os other r v
      → Decides blocks r v range.leaf) ranges

-- ---- calls

-- the rules of one call decide each record, of which those that hold have one verdict: that verdict, or the default where none
-- holds
abbrev pub DecidesRules : List Block → List Placed → ℕ → Leaf → Type 0
DecidesRules blocks rules default leaf =
    (r : List ℕ) → IsRecord r → ((v w : ℕ) → SomeHeld rules r v → SomeHeld rules r w → v ≡ w) → (v : ℕ)
    → SomeHeld rules r v ⊎ (((w : ℕ) → SomeHeld rules r w → ⊥) × (v ≡ default)) → Decides blocks r v leaf

-- each call of the machine with the token whose number is in the range gets the verdict that the profile says
abbrev pub DecidesCalls : Policy → ℕ → List Block → Range → Type 0
DecidesCalls policy token blocks range =
    (r : List ℕ) → IsRecord r → slice_index r 1 ≡ token → IsWithin range (slice_index r 0) → Decides blocks r (said policy r) range.leaf

-- the same from a target on
abbrev pub TellsCalls : Policy → ℕ → List Insn → Target → Type 0
TellsCalls policy token code to =
    (a : ℕ) (r : List ℕ) → IsRecord r → slice_index r 1 ≡ token → runs code to a r ≡ Some (said policy r)

-- At the target A holds the token. From there on, each call of one of the machines gets its verdict, and any other that of a
-- foreign record.
pub record TellsThese (policy : Policy) (machines : List Arch) (code : List Insn) (to : Target) : Type 0 where
  pub listed : (r : List ℕ) → IsRecord r → IsOneOf machines (slice_index r 1) → runs code to (slice_index r 1) r ≡ Some (said policy r)
  pub foreign : (r : List ℕ) → IsRecord r → (IsOneOf machines (slice_index r 1) → ⊥) → runs code to (slice_index r 1) r ≡ Some 0

-- the rules that match the record have one verdict
abbrev pub IsClearOn : List Rule → List ℕ → Type 0
IsClearOn rules r = (a b : Rule) → Contains rules a → Contains rules b → Matches a r → Matches b r → a.word ≡ b.word

-- the verdict of a rule that matches, or the default where none does
abbrev pub IsSaidBy : List Rule → ℕ → List ℕ → ℕ → Type 0
IsSaidBy rules default r word =
    ((rule : Rule) × Contains rules rule × Matches rule r × (rule.word ≡ word)) ⊎ (All (λ x. Matches x r → ⊥) rules × (word ≡ default))

-- Each record of this number, of the machine with the token, has this verdict, whatever it asks for. Each rule that the record
-- matches has it. If the record matches no rule, it is the default verdict.
abbrev pub SaysNumber : List Rule → ℕ → ℕ → ℕ → ℕ → Type 0
SaysNumber rules token number default word =
    (r : List ℕ) → IsRecord r → slice_index r 1 ≡ token → slice_index r 0 ≡ number → IsClearOn rules r → IsSaidBy rules default r word

-- the leaf decides each record of this number
abbrev pub DecidesNumber : List Rule → ℕ → ℕ → ℕ → List Block → Leaf → Type 0
DecidesNumber rules token number default blocks leaf =
    (r : List ℕ) → IsRecord r → slice_index r 1 ≡ token → slice_index r 0 ≡ number → IsClearOn rules r → (v : ℕ)
    → IsSaidBy rules default r v → Decides blocks r v leaf

-- some rules, each with its place, are just those for a number
pub record AreThose (rules : List Rule) (token number : ℕ) (own : List Placed) : Type 0 where
  pub those : All (λ placed. Contains rules placed.rule.now × IsFor token number placed.rule.now) own
  pub all : (rule : Rule) → Contains rules rule → IsFor token number rule → Any (λ placed. placed.rule.now ≡ rule) own
  pub places : All (λ placed. slice_get rules placed.place ≡ Some placed.rule.now) own

-- the same as they are gathered, from the last to the first: each other one for the number stands at the next place or before
pub record AreThoseBehind (rules : List Rule) (token number : ℕ) (next : Option ℕ) (own : List Placed) : Type 0 where
  pub those : All (λ placed. Contains rules placed.rule.now × IsFor token number placed.rule.now) own
  pub places : All (λ placed. slice_get rules placed.place ≡ Some placed.rule.now) own
  pub stands : IfSome next (StandsAt rules token number (length rules))
  pub left : (k : ℕ) (at : StandsAt rules token number (length rules) k)
      → IsSomeAnd next (λ place. k ≤ place) ⊎ Any (λ placed. placed.rule.now ≡ at.rule) own

-- none of the rules has a condition
abbrev pub HaveNoCondition : List Placed → Type 0
HaveNoCondition own = All (λ placed. placed.rule.now.conds.items ≡ []) own

-- What decides a number, by the rules for it. It is the verdict of one that has no condition. Or it is the default one, if that is the
-- verdict of each.
pub data IsLeafOf (own : List Placed) (default : ℕ) (to : Leaf) : Type 0 where
  by_rule : (placed : Placed) → Contains own placed → placed.rule.now.conds.items ≡ [] → to ≡ leaf.Verdict placed.rule.now.word
      → IsLeafOf own default to
  by_default : All (λ placed. placed.rule.now.word ≡ default) own → to ≡ leaf.Verdict default → IsLeafOf own default to

-- the ranges so far decide the calls of the machine
abbrev pub TellsSoFar : Policy → Arch → List Block → List Range → Type 0
TellsSoFar policy machine blocks ranges = All (DecidesCalls policy (token_of machine) blocks) ranges
