use Rattle.std.proofs.Common.{[], ◌∷◌}
use Rattle.std.specs.Prelude.{codes}
use Rattle.std.specs.Fmt.{decimal}
use Rattle.texts.specs.Lines.{line_feed}
use Rattle.bpf_insn.specs.Fault.{text_of}
use Rattle.compare.proofs.FilterLineLaws.{five_parts, formatted}
use Rattle.compare.specs.FiltersTold.{view_line}
use Rattle.compare.proofs.filters.told.view_line.Goals as goal

pub returns : goal.returns
returns c =
    formatted c.format.result _ (view_line c.args.fault c.args.place)
    (five_parts (codes "refused view ") (text_of c.args.fault) (codes ", filter ") (decimal c.args.place) (line_feed ∷ [])) c.format.ensures.ok
