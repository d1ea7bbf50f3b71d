use Rattle.std.proofs.Common.{◌≡◌, ◌++◌, take, All}
use Rattle.std.specs.List.{flat_map}
use Rattle.cert_form.specs.Spelling.{node}
use Rattle.cert_form.specs.Writing.{plains}
use Rattle.cert_form.specs.inner.Standing.{IsPlain}
use Rattle.cert_form.proofs.writing.put_nodes.Given as goal

abbrev pub invariant-loop-n : goal.invariant-loop-n
invariant-loop-n l = record {
  written : l.out.items ≡ l.fn.out.items ++ flat_map node (plains (take l.n-index l.nodes));
  plain : All IsPlain (plains (take l.n-index l.nodes));
}
