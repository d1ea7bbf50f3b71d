-- The tasks before the index are changed, and the others aren't.
use Rattle.std.proofs.Common.{◌≡◌, ◌++◌, List, take, drop}
use Rattle.processes.specs.Tasks.{Filter, end_where}
use Rattle.processes.specs.Kept.{all_of}
use Rattle.processes.specs.inner.Table.{is_meant}
use Rattle.processes.proofs.tasks.end_each.Given as goal

abbrev pub invariant-loop-task : goal.invariant-loop-task
invariant-loop-task g l = (seen : g.row.H.Denot → List Filter)
    → all_of seen l.tasks ≡ end_where (is_meant l.which) l.end (all_of seen (take l.task-index l.fn.tasks))
    ++ all_of seen (drop l.task-index l.fn.tasks)
