use Rattle.std.proofs.Common.{[], ◌∷◌}
use Rattle.std.specs.Prelude.{codes}
use Rattle.std.specs.Fmt.{decimal}
use Rattle.texts.specs.Lines.{line_feed}
use Rattle.profile_json.specs.Fault.{text_of}
use Rattle.compare.specs.Told.{refusal_line}
use Rattle.compare.proofs.LineLaws.{five_parts, formatted}
use Rattle.compare.proofs.told.refusal_line.Goals as goal

pub returns : goal.returns
returns c =
    formatted c.format.result _ (refusal_line c.args.place c.args.error)
    (five_parts (codes "refused profile ") (text_of c.args.error) (codes ", bundle ") (decimal c.args.place) (line_feed ∷ []))
    c.format.ensures.ok
