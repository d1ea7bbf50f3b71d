use Rattle.std.proofs.Common.{◌≡◌, ◌++◌, take}
use Rattle.std.specs.List.{flat_map}
use Rattle.cert_form.specs.Spelling.{chain_node}
use Rattle.cert_form.proofs.chain_writing.put_all_chained.Given as goal

abbrev pub invariant-loop-n : goal.invariant-loop-n
invariant-loop-n l = l.out.items ≡ l.fn.out.items ++ flat_map (chain_node l.version) (take l.n-index l.nodes)
