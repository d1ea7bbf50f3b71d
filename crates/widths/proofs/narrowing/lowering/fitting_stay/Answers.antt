use Rattle.widths.proofs.LowerLaws.{fitting_stay}
use Rattle.widths.proofs.narrowing.lowering.fitting_stay.Goals as goal

pub returns : goal.returns
returns c = fitting_stay
