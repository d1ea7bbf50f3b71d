use Rattle.std.proofs.Common.{[], ◌∷◌, ap, subst}
use Rattle.std.proofs.lemmas.List.Elements.{All-head}
use Rattle.rule_compile.specs.Questions.{bits}
use Rattle.rule_compile.specs.inner.Left.{AreAlikeAt, IsAlikeAt, Weighs}
use Rattle.rule_compile.proofs.LeftLaws.{rule_added, rule_out, rule_rules, weighs_first}
use Rattle.rule_compile.proofs.remaining.add_rule.Goals as goal

pub returns-then-is_out-clause-says : goal.returns-then-is_out-clause-says
returns-then-is_out-clause-says c = λ of.
    let subject = c.args.subject in
    let number = c.args.number in
    rule_out c.args.questions.now.asked.items c.args.more.now c.args.first.now
    (λ r. AreAlikeAt (c.args.first.now ∷ c.args.more.now) subject number (bits subject r)) of
    (λ r at. c.is_out.ensures c.if-is_out.true r
    (All-head (IsAlikeAt subject number (bits subject r)) c.args.first.now c.args.more.now at))

pub returns-clause-rules : goal.returns-clause-rules
returns-clause-rules c = λ of before.
    rule_rules c.args.subject c.args.number c.args.questions.now c.begin.new.self c.ask_left.new.questions c.ask_all_left.new.questions
    c.args.first.now c.args.more.now c.begin.ensures.asked c.begin.ensures.start c.begin.ensures.failed c.in_ok-ask_left.ensures.asks
    c.in_ok-ask_all_left.ensures.asks of before

pub returns-clause-says : goal.returns-clause-says
returns-clause-says c = λ of.
    rule_added c.args.subject c.args.number c.args.questions.now c.begin.new.self c.ask_left.new.questions c.ask_all_left.new.questions
    c.args.first.now c.args.more.now c.begin.ensures.asked c.begin.ensures.start c.begin.ensures.failed c.in_ok-ask_left.ensures.asks
    c.in_ok-ask_all_left.ensures.asks of c.is_met.result c.is_met.ensures

pub returns-clause-less : goal.returns-clause-less
returns-clause-less c =
    weighs_first c.args.questions.now.asked.items c.ask_left.new.questions.asked.items c.ask_all_left.new.questions.asked.items
    c.args.first.now c.args.more.now c.args.subject
    (subst (λ os. Weighs os c.ask_left.new.questions.asked.items (c.args.first.now ∷ []) c.args.subject)
    (ap (λ a. a.items) c.begin.ensures.asked) c.in_ok-ask_left.ensures.less) c.in_ok-ask_all_left.ensures.less
