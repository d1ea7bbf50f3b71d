use Rattle.std.proofs.Common.{◌≡◌, ◌≤◌, ◌+◌, length}
use Rattle.cert_form.specs.Nodes.{on_chain}
use Rattle.cert_form.specs.Reading.{chain_count, entries_of}
use Rattle.cert_form.proofs.chained.is_short.Given as goal

abbrev pub invariant-loop : goal.invariant-loop
invariant-loop l = record {
  steps : l.counter + length (on_chain (entries_of l.bytes) l.entry) ≡ length (on_chain (entries_of l.bytes) l.chain);
  known : l.entry ≤ chain_count l.bytes;
}
