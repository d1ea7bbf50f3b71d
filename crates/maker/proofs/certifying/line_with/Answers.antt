use Rattle.std.proofs.Common.{[], ◌∷◌}
use Rattle.std.specs.Prelude.{codes}
use Rattle.texts.specs.Lines.{line_feed}
use Rattle.call_record.specs.Text.{text_of}
use Rattle.maker.specs.Certified.{digits_line}
use Rattle.maker.proofs.EvidenceLaws.{formatted, seven_parts}
use Rattle.maker.proofs.certifying.line_with.Goals as goal

pub returns : goal.returns
returns c =
    let digits = c.args.digits.now in
    let given = text_of c.args.given in
    let said = text_of c.args.said in
    formatted c.format.result _ (digits_line digits c.args.given c.args.said)
    (seven_parts (codes "no record ") digits (codes " filter ") given (codes " profile ") said (line_feed ∷ [])) c.format.ensures.ok
