use Rattle.std.proofs.Common.{◌≡◌, ◌≤◌, ◌+◌, ◌*◌, ◌-◌, ◌^◌, arith}
use Rattle.std.specs.Prelude.{min}
use Rattle.std.proofs.lemmas.Nat.{mul-le}
use Rattle.differ.specs.OnCall.{comparisons, masks, ways_by_masks, ways_on}
use Rattle.differ.proofs.WaysLaws.{ways_small}
use Rattle.differ.proofs.ways.ways_on.Goals as goal

pub returns : goal.returns
unfolding ways_on
returns c =
    let conds = c.args.conds.now in
    let count = c.comparisons.result in
    let masked = c.masks.result in
    let by = c.ways_by_masks.result in
    let compared : c.saturating_add-compared.result ≤ 64 * count + 1 = omega arith in
    let more : c.saturating_add-masked.result ≤ masked + 1 = omega arith in
    let asked : c.saturating_add-masked.result * by ≤ (masked + 1) * by = mul-le c.saturating_add-masked.result by (masked + 1) by more (omega arith) in
    let asked_small : c.saturating_mul-2.result ≤ (masked + 1) * by = omega arith in
    let product : c.saturating_add-compared.result * c.saturating_mul-2.result ≤ (64 * count + 1) * ((masked + 1) * by) =
    mul-le c.saturating_add-compared.result c.saturating_mul-2.result (64 * count + 1) ((masked + 1) * by) compared asked_small in
    ways_small count masked by c.saturating_mul-3.result (comparisons conds) (masks conds) (ways_by_masks conds 64) c.comparisons.ensures
    c.masks.ensures c.ways_by_masks.ensures (omega arith)
