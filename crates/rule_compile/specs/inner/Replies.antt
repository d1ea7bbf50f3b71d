-- What a reply to a question says of records.
use Rattle.std.specs.Prelude.{◌≡◌, ◌↔◌, ◌⊎◌, ℕ, ◌==◌, nat_le, Bool, if◌then◌else◌, List, None}
use Rattle.rule_compile.specs.declared.question.Comparison.TheVariants.{AtLeast}
use Rattle.rule_compile.specs.declared.question.Question.{Question}
use Rattle.rule_compile.specs.declared.question.Reply.{Reply}
use Rattle.rule_compile.specs.declared.question.Reply.TheVariants as reply
use Rattle.rule_compile.specs.Questions.{IsMet}

-- a reply to a question says of a record whether it is met, or asks what it is met by
abbrev pub IsReply : Question → List ℕ → Reply → Type 0
IsReply q r reply.Met = IsMet q r
IsReply q r reply.NotMet = IsMet q r → ⊥
IsReply q r (reply.Open other) = IsMet other r ↔ IsMet q r

-- the reply that a test gives
abbrev pub reply_of : Bool → Reply
reply_of met = if met then reply.Met else reply.NotMet

-- Two numbers of the bits that are asked for get one reply. They are on one side of the number that is asked for. If it makes a
-- difference, both or none is this number.
abbrev pub AreAlike : Question → ℕ → ℕ → Type 0
AreAlike q n u =
    (nat_le q.number n ≡ nat_le q.number u)
    × (((q.comparison ≡ AtLeast) × (q.low ≡ None)) ⊎ ((n == q.number) ≡ (u == q.number)))
