use Rattle.std.proofs.Common.{◌≡◌, ◌*◌, length, take}
use Rattle.std.specs.Prelude.{map}
use Rattle.bpf_insn.specs.Bytes as little
use Rattle.byte_order.specs.Big as big
use Rattle.byte_order.specs.Turned.{other_half}
use Rattle.byte_order.proofs.turned.write_little.Given as goal

abbrev pub invariant-loop-i : goal.invariant-loop-i
invariant-loop-i l = take (8 * l.i) l.filter ≡ little.spelling (take l.i (map other_half (big.insns_of l.file)))
