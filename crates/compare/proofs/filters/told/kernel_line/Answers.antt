use Rattle.std.proofs.Common.{[], ◌∷◌}
use Rattle.std.specs.Prelude.{codes}
use Rattle.std.specs.Fmt.{decimal}
use Rattle.texts.specs.Lines.{line_feed}
use Rattle.kernel_check.specs.Fault.{text_of}
use Rattle.compare.proofs.FilterLineLaws.{five_parts, formatted}
use Rattle.compare.specs.FiltersTold.{kernel_line}
use Rattle.compare.proofs.filters.told.kernel_line.Goals as goal

pub returns : goal.returns
returns c =
    formatted c.format.result _ (kernel_line c.args.refused c.args.place)
    (five_parts (codes "refused kernel ") (text_of c.args.refused) (codes ", filter ") (decimal c.args.place) (line_feed ∷ []))
    c.format.ensures.ok
