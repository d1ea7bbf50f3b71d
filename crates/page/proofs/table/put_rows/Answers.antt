use Rattle.page.proofs.Rows.{rows_on}
use Rattle.page.proofs.table.put_rows.Goals as goal

pub loop-place-preserved : goal.loop-place-preserved
loop-place-preserved c =
    rows_on c.loop-place.page.items c.put_row.new.page.items _ c.args.groups.now c.args.others.now c.loop-place.place _ c.get.result
    c.loop-place-test.true c.get.ensures.lookup c.loop-place.invariant c.in_ok-put_row.ensures
