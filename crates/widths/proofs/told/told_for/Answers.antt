use Rattle.widths.proofs.NarrowToldLaws.{not_done}
use Rattle.widths.proofs.told.told_for.Goals as goal

pub returns-then-is_refused : goal.returns-then-is_refused
returns-then-is_refused c = λ bundle means. not_done c.args.native bundle c.nothing.result c.nothing.ensures
