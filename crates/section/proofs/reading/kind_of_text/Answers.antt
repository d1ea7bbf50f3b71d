use Rattle.section.proofs.TakenLaws.{readable_kind}
use Rattle.section.proofs.reading.kind_of_text.Goals as goal

pub returns : goal.returns
returns c =
    readable_kind c.args.bytes.now c.kind_of_read.result (c.is_large.ensures.small c.if-is_large.false) c.kind_of_read.ensures
