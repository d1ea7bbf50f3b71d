use Rattle.std.proofs.Common.{◌<◌, length, arith}
use Rattle.std.specs.List.{All}
use Rattle.std.proofs.lemmas.List.{take_all}
use Rattle.std.proofs.lemmas.List.Elements.{All-more, All-same}
use Rattle.std.proofs.Common.{sym}
use Rattle.differ.specs.Differences.{IsAnswered}
use Rattle.differ.specs.declared.named.Call.{Call}
use Rattle.differ.proofs.GatheredLaws.{all_answered_stay_in, extends_trans}
use Rattle.differ.proofs.NamedLaws.{named_like}
use Rattle.differ.proofs.gathered.add_each_in.Goals as goal

pub loop-call-preserved : goal.loop-call-preserved
loop-call-preserved c =
    let p = c.args.first.now in
    let q = c.args.second.now in
    let i = c.loop-call.call-index in
    let lt : i < length c.args.list.now = omega arith in
    record {
      told = λ h. c.in_ok-add_in.ensures.told_in (c.loop-call.invariant.told h);
      extends = extends_trans _ _ _ c.loop-call.invariant.extends c.in_ok-add_in.ensures.extends;
      answered =
          All-more (λ call. IsAnswered p q c.add_in.new.told call.token call.nr c.args.direction) c.args.list.now i _ lt
          (all_answered_stay_in p q _ _ _ _ c.in_ok-add_in.ensures.extends c.loop-call.invariant.answered) c.in_ok-add_in.ensures.answered;
    }

pub returns-clause-answered : goal.returns-clause-answered
returns-clause-answered c = λ t n named.
    let P : Call → Type 0 = λ call. IsAnswered c.args.first.now c.args.second.now c.loop-call.told call.token call.nr c.args.direction in
    let all : All P c.args.list.now =
    All-same P _ _ (sym (take_all c.loop-call.call-index c.args.list.now (omega arith))) c.loop-call.invariant.answered in
    named_like (λ t n. IsAnswered c.args.first.now c.args.second.now c.loop-call.told t n c.args.direction) c.args.list.now t n all named
