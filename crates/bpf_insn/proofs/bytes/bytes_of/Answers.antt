use Rattle.std.proofs.Common.{arith}
use Rattle.bpf_insn.proofs.BytesLemmas.{at_once}
use Rattle.bpf_insn.proofs.bytes.bytes_of.Goals as goal

pub returns-clause-read : goal.returns-clause-read
returns-clause-read c = at_once c.args.insn.now (omega arith) (omega arith)
