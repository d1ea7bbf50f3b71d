use Rattle.widths.specs.Reads.{cut_bits}
use Rattle.widths.proofs.SuitLaws.{six}
use Rattle.widths.proofs.narrowing.suiting.cut_plan.Goals as goal

pub returns-clause-cuts : goal.returns-clause-cuts
returns-clause-cuts c =
    six (cut_bits c.args.token c.args.nr) _ _ _ _ _ _ c.cut_bits.ensures c.cut_bits-2.ensures c.cut_bits-3.ensures c.cut_bits-4.ensures
    c.cut_bits-5.ensures c.cut_bits-6.ensures
