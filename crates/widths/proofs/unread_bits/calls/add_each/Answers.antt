use Rattle.std.proofs.Common.{◌<◌, length, arith, sym}
use Rattle.std.specs.List.{All}
use Rattle.std.proofs.lemmas.List.{take_all}
use Rattle.std.proofs.lemmas.List.Elements.{All-more, All-same}
use Rattle.differ.specs.declared.named.Call.{Call}
use Rattle.differ.proofs.NamedLaws.{named_like}
use Rattle.widths.specs.Past.{IsAnswered}
use Rattle.widths.proofs.CallLaws.{all_answered_stay}
use Rattle.widths.proofs.unread_bits.calls.add_each.Goals as goal

pub loop-call-preserved : goal.loop-call-preserved
loop-call-preserved c =
    let p = c.args.profile.now in
    let d = c.args.direction in
    let i = c.loop-call.call-index in
    let lt : i < length c.args.list.now = omega arith in
    record {
      told = λ h. c.in_ok-add_call.ensures.told (c.loop-call.invariant.told h);
      answered =
          All-more (λ call. IsAnswered p d c.add_call.new.all call.token call.nr) c.args.list.now i _ lt
          (all_answered_stay p d _ _ _ c.in_ok-add_call.ensures.extends c.loop-call.invariant.answered) c.in_ok-add_call.ensures.answered;
    }

pub returns-clause-answered : goal.returns-clause-answered
returns-clause-answered c = λ t n named.
    let P : Call → Type 0 = λ call. IsAnswered c.args.profile.now c.args.direction c.loop-call.all call.token call.nr in
    let all : All P c.args.list.now =
    All-same P _ _ (sym (take_all c.loop-call.call-index c.args.list.now (omega arith))) c.loop-call.invariant.answered in
    named_like (λ t n. IsAnswered c.args.profile.now c.args.direction c.loop-call.all t n) c.args.list.now t n all named
