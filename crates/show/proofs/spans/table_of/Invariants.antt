-- The table covers the positions so far.
use Rattle.std.proofs.Common.{◌≡◌, length}
use Rattle.bpf_insn.specs.Program.{insns}
use Rattle.show.specs.inner.Covering.{Covers}
use Rattle.show.proofs.spans.table_of.Given as goal

abbrev pub invariant-loop-place : goal.invariant-loop-place
invariant-loop-place l = record {
  covers : Covers (insns l.program) l.arch l.nr l.table.items;
  size : length l.table.items ≡ l.place;
}
