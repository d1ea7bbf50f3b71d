use Rattle.std.specs.Prelude.{take}
use Rattle.std.specs.List.{All}
use Rattle.call_record.specs.Words.{IsRecord, argument}
use Rattle.machines.specs.Width.{compared}
use Rattle.profile.specs.Condition.{Meets}
use Rattle.rule_compile.specs.inner.Asked.{Asks}
use Rattle.rule_compile.proofs.asked.Questions.ask_rule.Given as goal

abbrev pub invariant-loop-condition : goal.invariant-loop-condition
invariant-loop-condition l =
    Asks l.fn.self l.self l.placed.rule.now.word IsRecord
    (λ r. All (λ c. Meets c (compared l.narrow (argument r c.index))) (take l.condition l.cond-items))
