use Rattle.call_record.proofs.TextLemmas.{text_of-utf8}
use Rattle.call_record.proofs.text.WordDisplay.fmt.Goals as goal

pub unreachable-requires : goal.unreachable-requires
unreachable-requires g c = c.in-Err.ensures.cases.0 (rw c.text.ensures (text_of-utf8 c.args.self.now))
