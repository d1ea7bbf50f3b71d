use Rattle.std.proofs.Common.{◌≡◌, ◌≤◌, ◌++◌, length, vec_len}
use Rattle.std.specs.Str.{IsUtf8}
use Rattle.bpf_insn.specs.Bytes.{AreInsns, max_insns}
use Rattle.bpf_asm.specs.Listing.{listing}
use Rattle.bpf_asm.proofs.assembling.read_lines.Given as goal

abbrev pub invariant-loop-rest : goal.invariant-loop-rest
invariant-loop-rest l = record {
  split : l.text ≡ listing l.insns.items ++ l.rest;
  each : AreInsns l.insns.items;
  limit : vec_len l.insns ≤ max_insns;
  utf8 : IsUtf8 l.rest;
}

abbrev pub decreases-loop-rest : goal.decreases-loop-rest
decreases-loop-rest l = length l.rest
