-- A filter that is right for a profile that says what was added answers what was added.
use Rattle.std.proofs.Common.{ℕ, List}
use Rattle.profile.specs.Policy.{Policy}
use Rattle.filter_c.specs.declared.added.given.AddedRule.{AddedRule}
use Rattle.filter_c.specs.Saying.{SaysWhatWasAdded}
use Rattle.filter_c.specs.Room.{LacksRoom}
use Rattle.filter_c.specs.Rules.{AnswersWhatWasAdded, IsRightProgram}

module _ (machines : List ℕ) (default_action : ℕ) (rules : List AddedRule) (policy : Policy)
    (says : SaysWhatWasAdded machines default_action rules policy) where
  pub answers_what_was_added : (filter : List ℕ) → IsRightProgram policy filter → AnswersWhatWasAdded machines default_action rules filter
  answers_what_was_added filter h = record {
    program = h.program;
    accepted = h.accepted;
    answers = λ r is v. (λ e. (says r is v).0 ((h.right r is v).0 e), λ g. (h.right r is v).1 ((says r is v).1 g));
  }

  -- where it has no room, an answer has none
  pub lacks_room : (room count : ℕ) → LacksRoom (IsRightProgram policy) room count
      → LacksRoom (AnswersWhatWasAdded machines default_action rules) room count
  lacks_room room count h = record {
    answer = h.answer;
    is = answers_what_was_added h.answer h.is;
    counted = h.counted;
    longer = h.longer;
  }
