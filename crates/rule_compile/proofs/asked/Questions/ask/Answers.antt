use Rattle.std.proofs.Common.{◌≡◌, ◌==◌, ap, length, refl, rules}
use Rattle.std.specs.Prelude.{⊤}
use Rattle.rule_compile.proofs.AskedLaws.{asks_one}
use Rattle.rule_compile.proofs.asked.Questions.ask.Goals as goal

pub returns-clause-asks : goal.returns-clause-asks
returns-clause-asks c = λ last question.
    let long : c.len.result ≡ length c.args.self.now.asked.items = search rules in
    asks_one c.args.answer (λ r. ⊤) c.args.self.now (record c.args.self.now { asked = c.push.new.self }) _ last c.if-self.false refl refl
    c.in_ok-push.ensures.items (ap (λ n. n == c.args.self.now.start) long) (refl, question)
