use Rattle.widths.proofs.NarrowToldLaws.{not_done}
use Rattle.widths.proofs.told.checked_lowered.Goals as goal

pub returns-in-None : goal.returns-in-None
returns-in-None c = λ bundle means. not_done c.args.native bundle c.nothing.result c.nothing.ensures
