use Rattle.std.proofs.Common.{◌≡◌, ◌++◌, take}
use Rattle.std.specs.List.{flat_map}
use Rattle.cert_form.specs.Spelling.{if_stated}
use Rattle.cert_form.proofs.put.put_all_stated.Given as goal

abbrev pub invariant-loop-v : goal.invariant-loop-v
invariant-loop-v l = l.out.items ≡ l.fn.out.items ++ flat_map if_stated (take l.v-index l.scratch)
