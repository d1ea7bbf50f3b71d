use Rattle.std.proofs.Common.{refl}
use Rattle.section.specs.Unlike.{entries_lines, entry_lines}
use Rattle.section.proofs.UnlikeLaws.{one_more}
use Rattle.section.proofs.unlike.put_entries.Goals as goal

pub loop-entry-preserved : goal.loop-entry-preserved
loop-entry-preserved c =
    let top = c.args.top.now in
    let alone = c.args.alone in
    one_more (entry_lines alone top) (entries_lines alone top) (λ n j js. refl)
    c.loop-entry.lines.items c.put_entry.new.lines.items _ c.args.values.now c.loop-entry.entry c.index-values-entry.result
    c.loop-entry-test.true c.index-values-entry.is c.in_ok-put_entry.ensures c.loop-entry.invariant
