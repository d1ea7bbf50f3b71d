use Rattle.std.proofs.Common.{◌≡◌, ◌++◌, ◌<◌, length, map, sym, ◌∙◌, ap, subst, arith}
use Rattle.widths.specs.Cutting.{with_each}
use Rattle.widths.proofs.StepLaws.{extended_more}
use Rattle.widths.proofs.narrowing.cutting.extended.Goals as goal

pub loop-list-preserved : goal.loop-list-preserved
loop-list-preserved c =
    extended_more (λ v. v.items) c.loop-list.made.items c.extend.new.made.items c.args.lists.now c.args.parts.now c.loop-list.list-index
    c.list-item.result (omega (arith, c.loop-list-test.true)) c.loop-list.invariant
    (c.in_ok-extend.ensures ∙ ap (λ v. map (λ w. w.items) c.loop-list.made.items ++ with_each c.args.parts.now v.items) c.list-item.is)
