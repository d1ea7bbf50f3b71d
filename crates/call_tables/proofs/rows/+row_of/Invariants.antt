use Rattle.std.proofs.Common.{length}
use Rattle.call_tables.proofs.rows.+row_of.Given as goal

abbrev pub decreases-row_of : goal.decreases-row_of
decreases-row_of l = length l.table.now
