-- So many are copied.
use Rattle.std.proofs.Common.{◌≡◌, ◌++◌, take}
use Rattle.processes.proofs.filters.copied_onto.Given as goal

abbrev pub invariant-loop-filter : goal.invariant-loop-filter
invariant-loop-filter l = l.list.items ≡ l.initial.list.items ++ take l.filter-index l.filters
