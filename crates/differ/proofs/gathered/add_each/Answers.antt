use Rattle.std.proofs.Common.{◌<◌, length, arith}
use Rattle.std.specs.List.{All}
use Rattle.std.proofs.lemmas.List.{take_all}
use Rattle.std.proofs.lemmas.List.Elements.{All-more, All-same}
use Rattle.std.proofs.Common.{sym}
use Rattle.differ.specs.Differences.{IsAnswered}
use Rattle.differ.specs.declared.direction.Direction.{Direction}
use Rattle.differ.specs.declared.named.Call.{Call}
use Rattle.differ.proofs.GatheredLaws.{all_answered_stay, extends_trans}
use Rattle.differ.proofs.NamedLaws.{named_like}
use Rattle.differ.proofs.gathered.add_each.Goals as goal

pub loop-call-preserved : goal.loop-call-preserved
loop-call-preserved c =
    let p = c.args.first.now in
    let q = c.args.second.now in
    let i = c.loop-call.call-index in
    let lt : i < length c.args.list.now = omega arith in
    record {
      told = λ h. c.in_ok-add_call.ensures.told (c.loop-call.invariant.told h);
      extends = extends_trans _ _ _ c.loop-call.invariant.extends c.in_ok-add_call.ensures.extends;
      answered =
          All-more (λ call. (d : Direction) → IsAnswered p q c.add_call.new.told call.token call.nr d) c.args.list.now i _ lt
          (all_answered_stay p q _ _ _ c.in_ok-add_call.ensures.extends c.loop-call.invariant.answered) c.in_ok-add_call.ensures.answered;
    }

pub returns-clause-answered : goal.returns-clause-answered
returns-clause-answered c = λ t n d named.
    let P : Call → Type 0 = λ call. (d : Direction) → IsAnswered c.args.first.now c.args.second.now c.loop-call.told call.token call.nr d in
    let all : All P c.args.list.now =
    All-same P _ _ (sym (take_all c.loop-call.call-index c.args.list.now (omega arith))) c.loop-call.invariant.answered in
    named_like (λ t n. (d : Direction) → IsAnswered c.args.first.now c.args.second.now c.loop-call.told t n d) c.args.list.now t n all named d
