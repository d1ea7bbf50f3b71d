use Rattle.std.proofs.Common.{◌&&◌, ap, ◌∙◌, sym}
use Rattle.std.specs.Prelude.{option_and_then, option_map, slice_get}
use Rattle.processes.specs.Tasks.{is_live, is_task}
use Rattle.processes.specs.Kept.{process_of}
use Rattle.processes.proofs.Lists.{find_at_position}
use Rattle.processes.proofs.tasks.live_index.Goals as goal

pub returns-clause-found : goal.returns-clause-found
returns-clause-found g c = λ seen.
    find_at_position (process_of seen) (λ t. is_task c.args.number t && is_live t) c.args.tasks.now
    ∙ ap (option_and_then (λ i. option_map (process_of seen) (slice_get c.args.tasks.now i))) (sym c.live_position.ensures)
