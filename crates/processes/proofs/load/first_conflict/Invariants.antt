-- None before the index conflicts.
use Rattle.std.proofs.Common.{◌≡◌, drop}
use Rattle.std.specs.Prelude.{find}
use Rattle.processes.specs.Kernel.{conflicts}
use Rattle.processes.specs.Kept.{all_of, process_of}
use Rattle.processes.proofs.load.first_conflict.Given as goal

abbrev pub invariant-loop-task : goal.invariant-loop-task
invariant-loop-task g l =
    let seen = g.S.Store.filters_of l.store in
    find (conflicts (process_of seen l.caller)) (all_of seen (drop l.task-index l.tasks))
    ≡ find (conflicts (process_of seen l.caller)) (all_of seen l.tasks)
