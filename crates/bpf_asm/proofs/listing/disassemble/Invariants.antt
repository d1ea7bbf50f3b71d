use Rattle.std.proofs.Common.{◌≡◌, take}
use Rattle.std.specs.Prelude.{string_bytes}
use Rattle.bpf_insn.specs.Program.{insns}
use Rattle.bpf_asm.specs.Listing.{listing}
use Rattle.bpf_asm.proofs.listing.disassemble.Given as goal

abbrev pub invariant-loop-i : goal.invariant-loop-i
invariant-loop-i l = string_bytes l.text ≡ listing (take l.i (insns l.program))
