use Rattle.bpf_insn.specs.Program.{insns}
use Rattle.bpf_insn.proofs.BytesLemmas.{within, slice_get-insns_of}
use Rattle.bpf_insn.proofs.view.Program.get.Goals as goal

pub read_at-requires : goal.read_at-requires
unfolding insns
read_at-requires c = within c.args.self.now.bytes.now c.args.i c.requires

pub returns : goal.returns
unfolding insns
returns c = rw c.read_at.ensures (slice_get-insns_of c.args.self.now.bytes.now c.args.i c.requires)
