use Rattle.std.proofs.Common.{◌&&◌, ◌∙◌, sym}
use Rattle.processes.specs.Tasks.{is_in_group, is_live}
use Rattle.processes.specs.Kept.{process_of}
use Rattle.processes.proofs.Lists.{list_any-map}
use Rattle.processes.proofs.tasks.group_lives.Goals as goal

pub returns : goal.returns
returns g c = λ seen. c.any_lives.ensures
    ∙ sym (list_any-map (process_of seen) (λ t. is_in_group c.args.group t && is_live t) c.args.tasks.now)
