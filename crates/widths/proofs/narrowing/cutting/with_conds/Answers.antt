use Rattle.std.proofs.Common.{◌≡◌, true, ◌++◌, [], ◌∷◌, List, length, map, sym, ◌∙◌, ap, subst, arith}
use Rattle.std.specs.Prelude.{IsSome, Option}
use Rattle.std.specs.List.{All}
use Rattle.std.proofs.lemmas.List.Elements.{All-contains, All-push, same_from_all_zip}
use Rattle.arrayvec.specs.declared.array_vec.ArrayVec.{ArrayVec}
use Rattle.profile.specs.declared.conditions.Cond.{Cond}
use Rattle.profile.specs.Operator.{are_distinct}
use Rattle.profile.specs.declared.rules.Rule.{Rule}
use Rattle.widths.specs.Cutting.{IsLike}
use Rattle.widths.proofs.LowerLaws.{not_both}
use Rattle.widths.proofs.StepLaws.{conds_more}
use Rattle.widths.proofs.narrowing.cutting.with_conds.Goals as goal

pub unreachable-unreachable : goal.unreachable-unreachable
unreachable-unreachable c =
    let rule = c.args.rule.now in
    let list = c.list-item.result in
    let same = same_from_all_zip _ list.items c.in_ok-clone.field-0.items c.in_ok-clone.ensures.cases (λ x y e. e) in
    let like =
    All-contains (λ (v : ArrayVec Cond 6 (Unit {0})). map (λ (d : Cond). d.index) v.items ≡ map (λ (x : Cond). x.index) rule.conds.items)
    c.args.lists.now list c.requires (c.loop-list.list-index, c.loop-list-test.true, sym c.list-item.is) in
    let apart : are_distinct (map (λ (x : Cond). x.index) c.in_ok-clone.field-0.items) ≡ true =
    ap (λ (xs : List Cond). are_distinct (map (λ (x : Cond). x.index) xs)) same ∙ ap are_distinct like ∙ rule.apart in
    absurd (not_both (subst (λ (o : Option Rule). IsSome o) c.in-None.is (c.new.ensures.made.1 apart)))

pub loop-list-preserved : goal.loop-list-preserved
loop-list-preserved c =
    let its : IsLike c.args.rule.now c.in-Some.part = record {
      arch = c.in-Some.ensures.arch_is;
      nr = c.in-Some.ensures.nr_is;
      word = c.in-Some.ensures.verdict_is;
    } in
    let items = c.in_ok-push-in-Some.ensures.items in
    let fx = ap (λ v. v.items) c.in-Some.ensures.conds_are
    ∙ same_from_all_zip _ c.list-item.result.items c.in_ok-clone.field-0.items c.in_ok-clone.ensures.cases (λ x y e. e)
    ∙ ap (λ v. v.items) c.list-item.is in (
      subst (λ (xs : List Rule). All (IsLike c.args.rule.now) xs) (sym items)
          (All-push (IsLike c.args.rule.now) c.loop-list.made.items c.in-Some.part c.loop-list.invariant.0 its),
      conds_more (λ q. q.conds.items) (λ v. v.items) c.loop-list.made.items c.push.new.self.items c.in-Some.part c.args.lists.now
          c.loop-list.list-index c.list-item.result (omega (arith, c.loop-list-test.true)) c.loop-list.invariant.1 items fx,
    )
