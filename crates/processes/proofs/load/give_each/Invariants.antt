-- So many handles are left as tasks get one, all alike, and the tasks before the index have theirs.
use Rattle.std.proofs.Common.{◌≡◌, ◌++◌, All, List, take, drop, vec_len}
use Rattle.std.specs.Prelude.{count_by}
use Rattle.processes.specs.Tasks.{Filter}
use Rattle.processes.specs.Kept.{all_of}
use Rattle.processes.specs.inner.Table.{bare_of, given, is_taker}
use Rattle.processes.proofs.load.give_each.Given as goal

abbrev pub invariant-loop-task : goal.invariant-loop-task
invariant-loop-task g l = record {
  left : vec_len l.handles ≡ count_by (λ t. is_taker l.takers (bare_of t)) (drop l.task-index l.tasks);
  same : (seen : g.row.H.Denot → List Filter) (filters : List Filter) → All (λ handle. seen handle ≡ filters) l.initial.handles.items
      → All (λ handle. seen handle ≡ filters) l.handles.items;
  seen : (seen : g.row.H.Denot → List Filter) (filters : List Filter) → All (λ handle. seen handle ≡ filters) l.initial.handles.items
      → all_of seen l.tasks ≡ given (is_taker l.takers) l.listener filters (all_of seen (take l.task-index l.fn.tasks))
      ++ all_of seen (drop l.task-index l.fn.tasks);
}
