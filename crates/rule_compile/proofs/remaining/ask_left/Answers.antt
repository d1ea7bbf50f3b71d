use Rattle.std.specs.Prelude.{⊤}
use Rattle.std.proofs.lemmas.Result.{on_ok_weaker}
use Rattle.rule_compile.specs.Questions.{IsMet}
use Rattle.rule_compile.proofs.AskedLaws.{asks_like}
use Rattle.rule_compile.proofs.LeftLaws.{LookedOne, weighs_failed, weighs_is_asked}
use Rattle.rule_compile.proofs.remaining.ask_left.Goals as goal

pub returns-in-NotMet-clause-less : goal.returns-in-NotMet-clause-less
returns-in-NotMet-clause-less c =
    weighs_failed c.args.questions.now.asked.items c.fail.new.self.asked.items c.args.questions.now.start c.args.asked.now c.args.subject
    c.fail.ensures.asked

pub returns-in-Open-clause-asks : goal.returns-in-Open-clause-asks
returns-in-Open-clause-asks c = λ last question.
    on_ok_weaker c.ask.result
    (asks_like c.args.questions.now c.ask.new.self c.args.asked.now.answer (λ r. ⊤)
    (LookedOne c.args.subject c.args.number c.args.asked.now) (IsMet c.in-Open.question) (IsMet c.args.asked.now.question)
    (λ r at. tt) (λ r at. c.in-Open.ensures.says r at))
    (c.ask.ensures.asks last (c.in-Open.ensures.question question))

pub returns-in-Open-clause-less : goal.returns-in-Open-clause-less
returns-in-Open-clause-less c =
    on_ok_weaker c.ask.result
    (weighs_is_asked c.args.questions.now c.ask.new.self c.args.asked.now.asker c.args.asked.now c.in-Open.question c.args.subject
    c.in-Open.ensures.less)
    c.ask.ensures.asked
