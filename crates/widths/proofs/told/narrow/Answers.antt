use Rattle.widths.proofs.NarrowToldLaws.{none_narrowed}
use Rattle.widths.proofs.told.narrow.Goals as goal

pub returns-in-Err : goal.returns-in-Err
returns-in-Err c = none_narrowed c.args.document.now.native c.args.document.now.bytes c.refused.result c.refused.ensures
