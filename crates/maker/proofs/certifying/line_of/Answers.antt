use Rattle.call_record.specs.Record.{words}
use Rattle.maker.proofs.EvidenceLaws.{line_told}
use Rattle.maker.proofs.certifying.line_of.Goals as goal

pub returns : goal.returns
returns c =
    line_told c.to_bytes-bytes.result (words c.args.found.now.call) c.args.found.now.given c.args.found.now.said c.line_text.result
    c.are_bytes.ensures.size c.are_bytes.ensures.small c.to_bytes-bytes.ensures c.line_text.ensures
