use Rattle.std.proofs.Common.{◌≡◌, ◌++◌, take}
use Rattle.std.specs.List.{flat_map}
use Rattle.cert_form.specs.Spelling.{entry}
use Rattle.cert_form.specs.Writing.{all_known}
use Rattle.cert_form.proofs.chain_writing.put_entries.Given as goal

abbrev pub invariant-loop-e : goal.invariant-loop-e
invariant-loop-e l = l.out.items ≡ l.fn.out.items ++ flat_map entry (all_known (take l.e-index l.entries))
