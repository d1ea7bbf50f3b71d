-- So many places, all alike.
use Rattle.std.proofs.Common.{◌≡◌, All, vec_len}
use Rattle.shared_table.proofs.tree.places_at.Given as goal

abbrev pub invariant-loop : goal.invariant-loop
invariant-loop l = record {
  same : All (λ place. place.at ≡ l.at) l.places.items;
  count : vec_len l.places ≡ l.counter;
}
