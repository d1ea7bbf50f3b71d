use Rattle.std.proofs.Common.{arith}
use Rattle.bpf_insn.proofs.BytesLemmas.{are_insns-insns_of, spelling-insns_of}
use Rattle.bpf_insn.proofs.view.Program.view.Goals as goal

pub invariant_of-result-clause-spelled : goal.invariant_of-result-clause-spelled
invariant_of-result-clause-spelled c =
    spelling-insns_of c.args.bytes.now (λ i. omega (arith, c.type_inv.bytes i)) (omega arith)

pub invariant_of-result-clause-fields : goal.invariant_of-result-clause-fields
invariant_of-result-clause-fields c = are_insns-insns_of c.args.bytes.now (λ i. omega (arith, c.type_inv.bytes i))
