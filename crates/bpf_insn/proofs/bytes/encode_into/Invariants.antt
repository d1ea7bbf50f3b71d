use Rattle.std.proofs.Common.{◌≡◌, ◌*◌, take}
use Rattle.std.specs.Prelude.{All}
use Rattle.bpf_insn.specs.Bytes.{insn_at, insn_bytes, spelling}
use Rattle.bpf_insn.proofs.bytes.encode_into.Given as goal

abbrev pub invariant-loop-i : goal.invariant-loop-i
invariant-loop-i l = record {
  spelled : take (8 * l.i) l.out ≡ spelling (take l.i l.insns);
  read : All (λ i. insn_at (insn_bytes i) ≡ i) (take l.i l.insns);
}
