use Rattle.std.proofs.Common.{arith}
use Rattle.call_record.proofs.BytesLemmas.{sixteen}
use Rattle.call_record.proofs.layout.Record.from_bytes.Goals as goal

pub returns : goal.returns
returns c = cc (sixteen c.args.bytes.now (omega arith))
