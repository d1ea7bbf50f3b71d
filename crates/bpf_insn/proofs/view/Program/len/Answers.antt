use Rattle.std.proofs.Common.{sym}
use Rattle.bpf_insn.specs.Program.{insns}
use Rattle.bpf_insn.proofs.BytesLemmas.{length-insns_of}
use Rattle.bpf_insn.proofs.view.Program.len.Goals as goal

pub returns-clause-count : goal.returns-clause-count
unfolding insns
returns-clause-count c = sym (length-insns_of c.args.self.now.bytes.now)
