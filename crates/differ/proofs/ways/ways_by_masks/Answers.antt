use Rattle.std.proofs.Common.{◌≡◌, ◌∙◌, ap, arith, subst}
use Rattle.std.specs.Prelude.{if◌then◌else◌}
use Rattle.std.specs.List.{list_any}
use Rattle.differ.specs.OnCall.{has_bit}
use Rattle.differ.proofs.WaysLaws.{masks_more, masks_none}
use Rattle.differ.proofs.ways.ways_by_masks.Goals as goal

pub loop-place-init : goal.loop-place-init
loop-place-init c = masks_none c.args.conds.now

pub loop-place-preserved : goal.loop-place-preserved
loop-place-preserved c =
    let twice : c.factor.result ≡ (if list_any (has_bit c.loop-place.place) c.args.conds.now then 2 else 1) =
    c.factor.ensures ∙ ap (λ b. if b then 2 else 1) c.have_bit.ensures in
    masks_more c.args.conds.now c.loop-place.place c.factor.result c.loop-place.ways c.saturating_mul-ways.result twice c.loop-place.invariant (omega arith)
