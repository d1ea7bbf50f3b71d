use Rattle.std.proofs.Common.{◌≢◌, rules}
use Rattle.call_record.specs.Words.{IsRecord}
use Rattle.rule_compile.specs.inner.Left.{AreHeld}
use Rattle.rule_compile.proofs.AskedLaws.{added_rules}
use Rattle.rule_compile.proofs.HeldLaws.{added}
use Rattle.rule_compile.proofs.asked.Questions.add.Goals as goal

pub returns-clause-rules : goal.returns-clause-rules
returns-clause-rules c = λ before. added_rules c.args.self.now c.begin.new.self c.ask_rule.new.self c.args.placed.rule.now.word
    (AreHeld c.args.placed) c.begin.ensures.asked c.begin.ensures.start c.begin.ensures.failed IsRecord c.in_ok-ask_rule.ensures before

pub returns-clause-says : goal.returns-clause-says
returns-clause-says c =
    let other : c.args.placed.rule.now.word ≢ c.args.default = search rules in
    added c.args.self.now c.begin.new.self c.ask_rule.new.self c.args.placed c.args.default c.is_met.result c.begin.ensures.asked
    c.begin.ensures.start c.begin.ensures.failed other c.in_ok-ask_rule.ensures c.is_met.ensures
