use Rattle.std.proofs.Common.{◌≡◌, drop}
use Rattle.call_tables.specs.Tables.{table_of}
use Rattle.explain.specs.Audit.{number_by}
use Rattle.explain.specs.inner.Names.{pairs}
use Rattle.explain.proofs.audited.named.other_number.Given as goal

abbrev pub invariant-loop-entry : goal.invariant-loop-entry
invariant-loop-entry l =
    number_by (pairs (drop l.entry-index l.names)) (table_of l.machine) l.name ≡ number_by (pairs l.names) (table_of l.machine) l.name
