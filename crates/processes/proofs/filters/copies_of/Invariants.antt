-- So many copies, all alike.
use Rattle.std.proofs.Common.{◌≡◌, All, vec_len}
use Rattle.processes.proofs.filters.copies_of.Given as goal

abbrev pub invariant-loop : goal.invariant-loop
invariant-loop l = record {
  same : All (λ copy. copy ≡ l.filters) l.copies.items;
  count : vec_len l.copies ≡ l.counter;
}
