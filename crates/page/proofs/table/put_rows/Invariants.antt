-- The rows so far, in front of those of the groups that are left.
use Rattle.std.proofs.Common.{◌≡◌, ◌++◌, drop}
use Rattle.page.specs.Table.{rows}
use Rattle.page.specs.inner.Views.{groups}
use Rattle.page.proofs.table.put_rows.Given as goal

abbrev pub invariant-loop-place : goal.invariant-loop-place
invariant-loop-place l =
    l.page.items ++ rows (drop l.place (groups l.groups)) (drop l.place (groups l.others))
    ≡ l.fn.page.items ++ rows (groups l.groups) (groups l.others)
