-- What the questions of the rule that is being asked say of a record. Those of one rule stand together.
use Rattle.std.specs.Prelude.{◌≡◌, ◌≢◌, ◌↔◌, ◌⊎◌, ℕ, Bool, ◌+◌, ◌*◌, ◌/◌, ◌^◌, ◌≤◌, ◌==◌, ⊤, true, false}
use Rattle.std.specs.Prelude.{List, [], ◌∷◌, ◌++◌, length, take, drop}
use Rattle.std.specs.Prelude.{if◌then◌else◌}
use Rattle.std.specs.List.{All}
use Rattle.call_record.specs.Words.{IsRecord, word}
use Rattle.rule_compile.specs.declared.asked.Asker.{Asker}
use Rattle.rule_compile.specs.declared.asked.Open.{Open}
use Rattle.rule_compile.specs.declared.asked.Questions.{Questions}
use Rattle.rule_compile.specs.declared.question.Question.{Question}
use Rattle.rule_compile.specs.declared.asked.Placed.{Placed}
use Rattle.rule_compile.specs.Rules.{IsRuleMet, SomeMet}
use Rattle.rule_compile.specs.inner.Left.{AreHeld, IsQuestion}

-- the argument whose low word stands at this offset
abbrev pub argument_at : ℕ → List ℕ → ℕ
argument_at low r = word r (low / 4) + 2 ^ 32 * word r (low / 4 + 1)

-- the question is one of a rule with this verdict
abbrev pub IsOf : ℕ → Open → Type 0
IsOf word o = (o.answer ≡ word) × IsQuestion o.question

-- the questions of a rule with this verdict: just the first of them begins it
abbrev pub AreOf : ℕ → List Open → Type 0
AreOf word [] = ⊤
AreOf word (o ∷ os) = (o.begins ≡ true) × All (λ p. p.begins ≡ false) os × All (IsOf word) (o ∷ os)

-- ---- the rule that is being asked

-- its questions so far
abbrev pub last_of : Questions → List Open
last_of q = drop q.start q.asked.items

-- those of the rules before it
abbrev pub before_of : Questions → List Open
before_of q = take q.start q.asked.items

-- it has this verdict, and nothing is left of it where it failed
pub record IsLast (word : ℕ) (q : Questions) : Type 0 where
  pub within : q.start ≤ length q.asked.items
  pub nothing : q.failed ≡ true → length q.asked.items ≡ q.start
  pub rule : AreOf word (last_of q)

-- the record meets what is asked of it
abbrev pub MeetsLast : Questions → List ℕ → Type 0
MeetsLast q r = (q.failed ≡ false) × IsRuleMet r (last_of q)

-- more is asked for the rule with this verdict: of the records that are looked at, those that meet it have a property
pub record Asks (old new : Questions) (word : ℕ) (looked : List ℕ → Type 0) (property : List ℕ → Type 0) : Type 0 where
  pub start : new.start ≡ old.start
  pub before : before_of new ≡ before_of old
  pub last : IsLast word new
  pub says : (r : List ℕ) → looked r → MeetsLast new r ↔ (MeetsLast old r × property r)

-- a question more behind those that there are, unless the rule failed
abbrev pub IsAsked : Questions → Questions → Asker → ℕ → Question → Type 0
IsAsked old new asker answer question =
    new.asked.items
    ≡ (if old.failed then old.asked.items
    else old.asked.items
    ++ record { begins = length old.asked.items == old.start; answer = answer; question = question; asker = asker } ∷ [])

-- a rule was added, or passed over where it has the default verdict; or it holds of each record
abbrev pub IsAdded : Questions → Questions → Placed → ℕ → Bool → Type 0
IsAdded old new placed default true = (r : List ℕ) → IsRecord r → AreHeld placed r
IsAdded old new placed default false =
    (r : List ℕ) → IsRecord r → (w : ℕ)
    → SomeMet new.asked.items r w
    ↔ (SomeMet old.asked.items r w ⊎ (AreHeld placed r × (placed.rule.now.word ≡ w) × (w ≢ default)))
