use Rattle.std.proofs.Common.{[], ◌∷◌}
use Rattle.std.specs.Prelude.{codes}
use Rattle.texts.specs.Lines.{line_feed}
use Rattle.kernel_check.specs.Fault.{text_of}
use Rattle.show.proofs.LineLaws.{formatted, four_parts}
use Rattle.show.specs.Shown.{cause_line}
use Rattle.show.proofs.annotating.kernel_line.Goals as goal

pub returns : goal.returns
returns c =
    formatted c.format.result _ (cause_line c.args.mark.now c.args.cause)
    (four_parts c.args.mark.now (codes "refused kernel ") (text_of c.args.cause) (line_feed ∷ [])) c.format.ensures.ok
