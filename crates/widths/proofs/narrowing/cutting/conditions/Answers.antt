use Rattle.std.proofs.Common.{◌≡◌, ◌+◌, ◌*◌, ◌<◌, ◌++◌, [], ◌∷◌, List, length, get_or, map, take, refl, sym, ◌∙◌, ap, subst, arith}
use Rattle.std.proofs.lemmas.List.{length-map, take_more}
use Rattle.std.proofs.lemmas.List.Elements.{All-same}
use Rattle.arrayvec.specs.declared.array_vec.ArrayVec.{ArrayVec}
use Rattle.profile.specs.declared.conditions.Cond.{Cond}
use Rattle.widths.specs.Cutting.{AreCombined, extended}
use Rattle.widths.specs.Counts.{most_lists}
use Rattle.widths.proofs.CountLaws.{extended_long, taken_lists}
use Rattle.widths.proofs.CutLaws.{combined_none, combined_more}
use Rattle.widths.proofs.StepLaws.{longer_is, shorter}
use Rattle.widths.proofs.narrowing.cutting.conditions.Goals as goal

pub loop-cond-init : goal.loop-cond-init
loop-cond-init c =
    let e : map (λ v. v.items) c.push.new.self.items ≡ [] ∷ [] =
    ap (map (λ v. v.items)) (c.in_ok-push.ensures.items ∙ ap (λ l. l ++ c.new.result ∷ []) c.new-made.ensures.items)
    ∙ ap (λ cs. cs ∷ []) c.new.ensures in
    subst (AreCombined c.args.plan.now []) (sym e) (combined_none c.args.plan.now)

pub extended-requires : goal.extended-requires
extended-requires c =
    All-same (λ (v : ArrayVec Cond 6 (Unit {0})). length v.items < 6) c.deref.result.now c.loop-cond.made.items c.deref.ensures.value
    (shorter (λ v. v.items) c.loop-cond.made.items c.args.conds.now c.loop-cond.cond-index (omega (arith, c.loop-cond-test.true)) c.requires
    c.loop-cond.invariant.indexes)

pub loop-cond-preserved : goal.loop-cond-preserved
loop-cond-preserved c =
    let css = map (λ v. v.items) c.loop-cond.made.items in
    let before = take c.loop-cond.cond-index c.args.conds.now in
    let made = combined_more c.args.plan.now before css c.cond-item.result c.in_ok-parts.parts.items c.loop-cond.invariant c.in_ok-parts.ensures in
    let longer = longer_is (λ v. v.items) c.in_ok-longer.longer.items c.deref.result.now c.loop-cond.made.items c.deref-in-loop-cond.result.now
    c.in_ok-parts.parts.items c.in_ok-longer.ensures c.deref-in-loop-cond.ensures.value c.deref.ensures.value in
    let more : take (c.loop-cond.cond-index + 1) c.args.conds.now ≡ before ++ c.cond-item.result ∷ [] =
    take_more c.args.conds.now c.loop-cond.cond-index c.cond-item.result (omega (arith, c.loop-cond-test.true))
    ∙ ap (λ x. before ++ x ∷ []) (sym c.cond-item.is) in
    subst (λ (cs : List Cond). AreCombined c.args.plan.now cs (map (λ v. v.items) c.in_ok-longer.longer.items)) (sym more)
    (subst (λ (ds : List (List Cond)). AreCombined c.args.plan.now (before ++ c.cond-item.result ∷ []) ds) (sym longer) made)

pub returns-then-count-gt-MOST_PARTS-clause-err : goal.returns-then-count-gt-MOST_PARTS-clause-err
returns-then-count-gt-MOST_PARTS-clause-err c =
    let plan = c.args.plan.now in
    let css = map (λ v. v.items) c.loop-cond.made.items in
    let parts = c.in_ok-parts.parts.items in
    let before = take c.loop-cond.cond-index c.args.conds.now in
    let made = combined_more plan before css c.cond-item.result parts c.loop-cond.invariant c.in_ok-parts.ensures in
    let more : take (c.loop-cond.cond-index + 1) c.args.conds.now ≡ before ++ c.cond-item.result ∷ [] =
    take_more c.args.conds.now c.loop-cond.cond-index c.cond-item.result (omega (arith, c.loop-cond-test.true))
    ∙ ap (λ x. before ++ x ∷ []) (sym c.cond-item.is) in
    let whole = length-map c.loop-cond.made.items (λ v. v.items) in
    let lists : length css ≡ c.len.result = omega (arith, whole, c.len.ensures) in
    let others : length parts ≡ c.len-in-loop-cond.result = omega (arith, c.len-in-loop-cond.ensures) in
    let long : length (extended parts css) ≡ c.len.result * c.len-in-loop-cond.result =
    extended_long parts css ∙ ap (λ n. n * length parts) lists ∙ ap (λ n. c.len.result * n) others in
    let few = made.few in
    let most = ap (most_lists plan) more in
    let all = taken_lists plan c.args.conds.now (c.loop-cond.cond-index + 1) in
    omega (arith, few, long, most, all, c.if-count-gt-MOST_PARTS.true, c.saturating_mul-count.ensures)
