use Rattle.std.proofs.Common.{add-one, arith}
use Rattle.std.specs.Prelude.{if◌then◌else◌}
use Rattle.processes.specs.Tasks.{end_by}
use Rattle.processes.specs.Kept.{process_of}
use Rattle.processes.specs.inner.Table.{is_meant}
use Rattle.processes.proofs.Lists.{map_more}
use Rattle.processes.proofs.tasks.end_each.Goals as goal

pub loop-task-preserved : goal.loop-task-preserved
loop-task-preserved g c = λ seen.
    rw add-one (map_more (process_of seen) (λ t. if is_meant c.args.which t then end_by c.args.end t else t) c.args.tasks.now c.loop-task.tasks c.loop-task.task-index c.end_if_meant.new.task c.task-item.result
    (c.loop-task.invariant seen) (omega arith) (c.end_if_meant.ensures seen))
