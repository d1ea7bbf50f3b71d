use Rattle.std.proofs.Common.{◌≡◌, [], ◌∷◌, ◌++◌, length, get_or, sym, ◌∙◌, ap, arith}
use Rattle.std.proofs.lemmas.List.Elements.{same_from_all_zip}
use Rattle.widths.proofs.StepLaws.{extend_more}
use Rattle.widths.proofs.narrowing.cutting.extend.Goals as goal

pub push-requires : goal.push-requires
push-requires c =
    let same : c.in_ok-longer.longer.items ≡ c.args.list.now.items =
    same_from_all_zip _ c.args.list.now.items c.in_ok-longer.longer.items c.in_ok-longer.ensures.cases (λ x y e. e) in
    let long = ap length same in
    omega (arith, long, c.requires)

pub loop-part-preserved : goal.loop-part-preserved
loop-part-preserved c =
    let same : c.in_ok-longer.longer.items ≡ c.args.list.now.items =
    same_from_all_zip _ c.args.list.now.items c.in_ok-longer.longer.items c.in_ok-longer.ensures.cases (λ x y e. e) in
    let fx : c.push.new.self.items ≡ c.args.list.now.items ++ get_or c.args.parts.now c.loop-part.part-index c.part-item.result ∷ [] =
    c.push.ensures.items ∙ ap (λ l. l ++ c.part-item.result ∷ []) same ∙ ap (λ y. c.args.list.now.items ++ y ∷ []) c.part-item.is in
    extend_more (λ v. v.items) c.args.made.now.items c.loop-part.made.items c.push-in-loop-part.new.self.items c.push.new.self
    c.args.parts.now c.loop-part.part-index c.part-item.result c.args.list.now.items (omega (arith, c.loop-part-test.true)) c.loop-part.invariant
    c.in_ok-push.ensures.items fx
