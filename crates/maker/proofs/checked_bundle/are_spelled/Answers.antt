use Rattle.std.proofs.Common.{arith}
use Rattle.bpf_insn.proofs.BytesLemmas.{spelling-insns_of}
use Rattle.maker.proofs.ExportLaws.{in_eights}
use Rattle.maker.proofs.checked_bundle.are_spelled.Goals as goal

pub returns : goal.returns
returns c = λ whole. spelling-insns_of c.args.filter.now (λ i. omega (arith, c.type_inv.filter i))
    (in_eights c.args.filter.now whole)
