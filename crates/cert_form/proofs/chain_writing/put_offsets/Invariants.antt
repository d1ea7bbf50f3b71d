use Rattle.std.proofs.Common.{◌≡◌, ◌≤◌, ◌+◌, ◌*◌, ◌++◌, drop}
use Rattle.cert_form.specs.Spelling.{offsets}
use Rattle.cert_form.proofs.chain_writing.put_offsets.Given as goal

abbrev pub invariant-loop-n : goal.invariant-loop-n
invariant-loop-n l = record {
  written : l.out.items ++ offsets l.version l.at (drop l.n-index l.nodes) ≡ l.fn.out.items ++ offsets l.version l.first l.nodes;
  bound : l.at ≤ l.first + 200 * l.n-index;
}
