use Rattle.std.proofs.Common.{◌↔◌, ◌≤◌}
use Rattle.std.specs.Prelude.{IsTrue, slice_range}
use Rattle.cert_state.specs.Entailment.{IsExcluded}
use Rattle.cert_state.proofs.columns.Rows.some_excludes.Given as goal

-- whether one of the first rows excludes the datum
abbrev pub invariant-loop-row : goal.invariant-loop-row
invariant-loop-row l = record {
  from : l.self.from ≤ l.row;
  to : l.row ≤ l.self.to;
  found : IsTrue l.found ↔ IsExcluded (slice_range l.self.table.now.lits l.self.from l.row) l.self.word l.mask l.datum;
}
