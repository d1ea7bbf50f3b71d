use Rattle.std.proofs.Common.{◌↔◌, ◌≤◌}
use Rattle.std.specs.Prelude.{Contains, IsTrue, slice_range}
use Rattle.cert_state.proofs.columns.RowsSearched.states.Given as goal

-- whether the literal is one of the first rows
abbrev pub invariant-loop-row : goal.invariant-loop-row
invariant-loop-row l = record {
  from : l.self.from ≤ l.row;
  to : l.row ≤ l.self.to;
  found : IsTrue l.found ↔ Contains (slice_range l.self.table.now.lits l.self.from l.row) l.literal;
}
