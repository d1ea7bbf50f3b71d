-- What is left to ask of rules.
use Rattle.std.specs.Prelude.{◌≡◌, ◌↔◌, ◌≢◌, ◌≤◌, ◌<◌, ◌+◌, ◌^◌, ◌%◌, ◌⊎◌, ⊤, ℕ, Bool, true, false}
use Rattle.std.specs.Prelude.{List, [], ◌∷◌, Option, Some, None, slice_get}
use Rattle.std.specs.List.{All, Any, Contains}
use Rattle.call_record.specs.Words.{argument}
use Rattle.machines.specs.Width.{compared}
use Rattle.profile.specs.Rule.{is_narrow_rule}
use Rattle.profile.specs.Condition.{Meets}
use Rattle.rule_compile.specs.declared.asked.Open.{Open}
use Rattle.rule_compile.specs.declared.asked.Placed.{Placed}
use Rattle.rule_compile.specs.declared.asked.Rest.{Rest}
use Rattle.rule_compile.specs.declared.asked.Rest.TheVariants as rest
use Rattle.rule_compile.specs.declared.question.Comparison.TheVariants.{AtLeast}
use Rattle.rule_compile.specs.declared.question.Question.{Question}
use Rattle.rule_compile.specs.declared.question.Reply.{Reply}
use Rattle.rule_compile.specs.declared.question.Reply.TheVariants as reply
use Rattle.rule_compile.specs.declared.question.Subject.{Subject}
use Rattle.rule_compile.specs.Rules.{IsRuleMet, SomeMet, begins_here, rules_of, answer_of}
use Rattle.rule_compile.specs.inner.Replies.{AreAlike}

-- ---- well-formed questions

-- the word stands in an argument of a record
abbrev pub IsOffset : ℕ → Type 0
IsOffset word = (word % 4 ≡ 0) × (word < 64)

-- A question of an argument. If it goes on with the low word, this stands in front of the high one and is asked for whole.
pub record IsQuestion (q : Question) : Type 0 where
  pub offset : IsOffset q.subject.word
  pub high : (low : ℕ) → q.low ≡ Some low → (4 ≤ q.subject.word) × (q.subject.mask ≡ 0xffffffff) × (low < 2 ^ 32)
  pub masked : (q.subject.mask ≡ 0xffffffff) ⊎ (q.number ≤ q.subject.mask)

-- the questions of one rule have one verdict
abbrev pub IsRule : List Open → Type 0
IsRule rule = All (λ o. (o.answer ≡ answer_of rule) × IsQuestion o.question) rule

abbrev pub AreRules : List Open → Type 0
AreRules os = (begins_here os ≡ true) × All IsRule (rules_of os)

-- how much is left to ask: a question that goes on with the low word counts twice
abbrev pub weight_of : Option ℕ → ℕ
weight_of None = 1
weight_of (Some low) = 2

abbrev pub weight : List Open → ℕ
weight [] = 0
weight (o ∷ os) = weight_of o.question.low + weight os

-- what is left to ask is such a question, if anything is
abbrev pub IsQuestionLeft : Reply → Type 0
IsQuestionLeft reply.Met = ⊤
IsQuestionLeft reply.NotMet = ⊤
IsQuestionLeft (reply.Open q) = IsQuestion q

-- it goes on with nothing
abbrev pub IsAlone : Reply → Type 0
IsAlone reply.Met = ⊤
IsAlone reply.NotMet = ⊤
IsAlone (reply.Open q) = q.low ≡ None

-- a reply where these bits are known: what it asks weighs no more than the question, and less where that asks for these bits
abbrev pub WeighsLess : Question → Subject → Reply → Type 0
WeighsLess q subject reply.Met = ⊤
WeighsLess q subject reply.NotMet = ⊤
WeighsLess q subject (reply.Open other) =
    (weight_of other.low ≤ weight_of q.low) × (q.subject ≡ subject → weight_of other.low < weight_of q.low)

-- ---- what is left

-- some question asks for these bits
abbrev pub AsksFor : List Open → Subject → Type 0
AsksFor os subject = Any (λ o. o.question.subject ≡ subject) os

-- the bits of the record get each question the reply that this number gets
abbrev pub IsAlikeAt : Subject → ℕ → ℕ → Open → Type 0
IsAlikeAt subject n u o = o.question.subject ≡ subject → AreAlike o.question n u

abbrev pub AreAlikeAt : List Open → Subject → ℕ → ℕ → Type 0
AreAlikeAt os subject n u = All (IsAlikeAt subject n u) os

-- what is left says of the record what the rules say: a rule that is met for sure, or others to ask
abbrev pub SaysAlike : List Open → List ℕ → Rest → Type 0
SaysAlike os r (rest.Met place w) = SomeMet os r w
SaysAlike os r (rest.Open others) = (w : ℕ) → SomeMet others.items r w ↔ SomeMet os r w

-- what is left are rules, and they ask less, where something was asked
abbrev pub AsksLess : List Open → Subject → Rest → Type 0
AsksLess os subject (rest.Met place w) = ⊤
AsksLess os subject (rest.Open others) = AreRules others.items × (AsksFor os subject → weight others.items < weight os)

-- the rule is met for sure, or it was added to the questions, each of which says alike of the records that are looked at
abbrev pub IsAddedLeft : List Open → List Open → List Open → (List ℕ → Type 0) → Bool → Type 0
IsAddedLeft old new rule looked true = (r : List ℕ) → looked r → IsRuleMet r rule
IsAddedLeft old new rule looked false =
    (r : List ℕ) → looked r → (w : ℕ) → SomeMet new r w ↔ (SomeMet old r w ⊎ SomeMet rule r w)

-- the questions weigh no more than before together with those that were added, and less where one of them asks for these bits
abbrev pub Weighs : List Open → List Open → List Open → Subject → Type 0
Weighs old new rule subject =
    (weight new ≤ weight old + weight rule) × (AsksFor rule subject → weight new < weight old + weight rule)

-- ---- numbers from which on the replies may be others

-- the number stands from this start on and in front of the next one
pub record IsFrom (starts : List ℕ) (place start u : ℕ) : Type 0 where
  pub is : slice_get starts place ≡ Some start
  pub least : start ≤ u
  pub below : (next : ℕ) → slice_get starts (place + 1) ≡ Some next → u < next
  pub word : u < 2 ^ 32

-- at no further number may the reply be another than behind it
abbrev pub HasNoNext : Question → Type 0
HasNoNext q = ((q.comparison ≡ AtLeast) × (q.low ≡ None)) ⊎ (2 ^ 32 ≤ q.number + 1)

-- the numbers have those from which on the reply to the question may be another
pub record HasTurns (numbers : List ℕ) (q : Question) : Type 0 where
  pub own : Contains numbers q.number
  pub next : HasNoNext q ⊎ Contains numbers (q.number + 1)

-- the starts are in order, from 0 on, and between two of them each question of these bits has one reply
pub record AreStarts (os : List Open) (subject : Subject) (starts : List ℕ) : Type 0 where
  pub zero_first : slice_get starts 0 ≡ Some 0
  pub ascend : (place start next : ℕ) → slice_get starts place ≡ Some start → slice_get starts (place + 1) ≡ Some next → start < next
  pub words : All (λ start. start < 2 ^ 32) starts
  pub alike : (place start u : ℕ) → IsFrom starts place start u → AreAlikeAt os subject start u

-- ---- rules of a profile

-- a rule's conditions hold of the record
abbrev pub AreHeld : Placed → List ℕ → Type 0
AreHeld placed r =
    All (λ c. Meets c (compared (is_narrow_rule placed.rule.now) (argument r c.index))) placed.rule.now.conds.items

-- some rule that holds has this verdict
abbrev pub SomeHeld : List Placed → List ℕ → ℕ → Type 0
SomeHeld rules r w = Any (λ placed. AreHeld placed r × (placed.rule.now.word ≡ w)) rules

-- the questions say of the record which of the rules hold, but for those with the default verdict
abbrev pub SaysHeld : List Placed → ℕ → List ℕ → Rest → Type 0
SaysHeld rules default r (rest.Met place w) = SomeHeld rules r w
SaysHeld rules default r (rest.Open os) = (w : ℕ) → SomeMet os.items r w ↔ (SomeHeld rules r w × (w ≢ default))

-- what is left are rules
abbrev pub AreLeft : Rest → Type 0
AreLeft (rest.Met place w) = ⊤
AreLeft (rest.Open os) = AreRules os.items

-- ---- the same, whoever asks it

-- both ask the same, for the same verdict
pub record IsSame (these others : Open) : Type 0 where
  pub begins : these.begins ≡ others.begins
  pub answer : these.answer ≡ others.answer
  pub question : these.question ≡ others.question

abbrev pub AreSame : List Open → List Open → Type 0
AreSame [] [] = ⊤
AreSame [] (p ∷ ps) = ⊥
AreSame (o ∷ os) [] = ⊥
AreSame (o ∷ os) (p ∷ ps) = IsSame o p × AreSame os ps
