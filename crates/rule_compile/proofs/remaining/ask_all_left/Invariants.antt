use Rattle.std.specs.Prelude.{ℕ, take}
use Rattle.std.specs.List.{All}
use Rattle.rule_compile.specs.Rules.{IsRuleMet}
use Rattle.rule_compile.specs.inner.Asked.{Asks, IsLast, IsOf}
use Rattle.rule_compile.specs.inner.Left.{Weighs}
use Rattle.rule_compile.proofs.LeftLaws.{Looked}
use Rattle.rule_compile.proofs.remaining.ask_all_left.Given as goal

abbrev pub invariant-loop-open : goal.invariant-loop-open
invariant-loop-open l = record {
  asks : (word : ℕ) → IsLast word l.fn.questions → All (IsOf word) l.more
      → Asks l.fn.questions l.questions word (Looked l.subject l.number l.more) (λ r. IsRuleMet r (take l.open-index l.more));
  less : Weighs l.fn.questions.asked.items l.questions.asked.items (take l.open-index l.more) l.subject;
}
