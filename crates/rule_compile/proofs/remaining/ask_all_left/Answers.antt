use Rattle.std.proofs.Common.{◌<◌, ◌≤◌, length, rules, subst}
use Rattle.std.proofs.lemmas.List.{take_all}
use Rattle.rule_compile.specs.Rules.{IsRuleMet}
use Rattle.rule_compile.specs.inner.Asked.{Asks}
use Rattle.rule_compile.specs.inner.Left.{Weighs}
use Rattle.rule_compile.proofs.LeftLaws.{Looked, none_asked, one_more, weighs_more, weighs_nothing}
use Rattle.rule_compile.proofs.remaining.ask_all_left.Goals as goal

pub loop-open-init : goal.loop-open-init
loop-open-init c = record {
  asks = λ word last of. none_asked c.args.subject c.args.number c.args.questions.now c.args.more.now word last;
  less = weighs_nothing c.args.questions.now.asked.items c.args.subject;
}

pub loop-open-preserved : goal.loop-open-preserved
loop-open-preserved c =
    let within : c.loop-open.open-index < length c.args.more.now = search rules in
    record {
      asks = λ word last of. one_more c.args.subject c.args.number c.args.questions.now c.loop-open.questions c.ask_left.new.questions
          c.args.more.now c.loop-open.open-index c.open-item.result word within c.open-item.is of
          c.in_ok-ask_left.ensures.asks (c.loop-open.invariant.asks word last of);
      less = weighs_more c.args.questions.now.asked.items c.loop-open.questions.asked.items c.ask_left.new.questions.asked.items
          c.args.more.now c.loop-open.open-index c.open-item.result c.args.subject within c.open-item.is
          c.loop-open.invariant.less c.in_ok-ask_left.ensures.less;
    }

pub returns : goal.returns
returns c =
    let ended : length c.args.more.now ≤ c.loop-open.open-index = search rules in
    let whole = take_all c.loop-open.open-index c.args.more.now ended in
    record {
      asks = λ word last of. subst (λ os. Asks c.args.questions.now c.loop-open.questions word
          (Looked c.args.subject c.args.number c.args.more.now) (λ r. IsRuleMet r os)) whole (c.loop-open.invariant.asks word last of);
      less = subst (λ os. Weighs c.args.questions.now.asked.items c.loop-open.questions.asked.items os c.args.subject) whole
          c.loop-open.invariant.less;
    }
