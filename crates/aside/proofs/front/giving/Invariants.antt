use Rattle.bpf_insn.specs.Bytes.{insns_of}
use Rattle.aside.specs.inner.Front.{IsSameBut}
use Rattle.aside.proofs.front.giving.Given as goal

abbrev pub invariant-loop-calls : goal.invariant-loop-calls
invariant-loop-calls l = IsSameBut l.aside (insns_of l.bytes.items) (insns_of l.filter)
