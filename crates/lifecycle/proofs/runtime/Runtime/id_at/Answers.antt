use Rattle.std.proofs.Common.{Some, sym, ap, ◌∙◌}
use Rattle.lifecycle.specs.Listed.{listed}
use Rattle.lifecycle.specs.Views.{world_of}
use Rattle.lifecycle.proofs.CommandLaws.{id_at}
use Rattle.lifecycle.proofs.runtime.Runtime.id_at.Goals as goal

pub returns : goal.returns
unfolding world_of
returns g c =
    let es = listed c.args.self.now.entries in
    ap Some c.as_str.ensures.text ∙ (c.in_ok-name.ensures ∙ sym (id_at (g.K.Kernel.processes c.args.self.now.kernel) es c.args.i))
