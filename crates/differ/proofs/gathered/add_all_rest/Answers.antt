use Rattle.std.proofs.Common.{◌<◌, length, arith}
use Rattle.std.specs.List.{All}
use Rattle.std.proofs.lemmas.List.{take_all}
use Rattle.std.proofs.lemmas.List.Elements.{All-more, All-same}
use Rattle.std.proofs.Common.{sym}
use Rattle.differ.specs.Differences.{IsCovered}
use Rattle.differ.specs.declared.direction.Direction.{Direction}
use Rattle.differ.specs.declared.named.Call.{Call}
use Rattle.differ.proofs.GatheredLaws.{all_covered_stay, extends_trans}
use Rattle.differ.proofs.NamedLaws.{named_like}
use Rattle.differ.proofs.gathered.add_all_rest.Goals as goal

pub loop-call-preserved : goal.loop-call-preserved
loop-call-preserved c =
    let p = c.args.first.now in
    let q = c.args.second.now in
    let i = c.loop-call.call-index in
    let lt : i < length c.args.list.now = omega arith in
    record {
      told = λ h. c.in_ok-add_rest.ensures.told (c.loop-call.invariant.told h);
      extends = extends_trans _ _ _ c.loop-call.invariant.extends c.in_ok-add_rest.ensures.extends;
      covered =
          All-more (λ call. (d : Direction) → IsCovered p q c.add_rest.new.told call.token call.nr d) c.args.list.now i _ lt
          (all_covered_stay p q _ _ _ c.in_ok-add_rest.ensures.extends c.loop-call.invariant.covered) c.in_ok-add_rest.ensures.covered;
    }

pub returns-clause-covered : goal.returns-clause-covered
returns-clause-covered c = λ t n d named.
    let P : Call → Type 0 = λ call. (d : Direction) → IsCovered c.args.first.now c.args.second.now c.loop-call.told call.token call.nr d in
    let all : All P c.args.list.now =
    All-same P _ _ (sym (take_all c.loop-call.call-index c.args.list.now (omega arith))) c.loop-call.invariant.covered in
    named_like (λ t n. (d : Direction) → IsCovered c.args.first.now c.args.second.now c.loop-call.told t n d) c.args.list.now t n all named d
