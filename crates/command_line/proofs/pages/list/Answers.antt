use Rattle.std.proofs.Common.{◌<◌, arith, length}
use Rattle.command_line.proofs.Told.{lines_more}
use Rattle.command_line.proofs.pages.list.Goals as goal

pub loop-entry-preserved : goal.loop-entry-preserved
loop-entry-preserved c =
    let entries = c.args.entries.now in
    let lt : c.loop-entry.entry-index < length entries = omega (arith, c.loop-entry-test.true) in
    lines_more entries c.loop-entry.entry-index _ _ _ lt c.loop-entry.invariant c.in_ok-push_line.ensures
