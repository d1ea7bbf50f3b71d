use Rattle.std.proofs.Common.{sym, ap, ◌∙◌, if◌then◌else◌}
use Rattle.processes.specs.Views.{lives_in}
use Rattle.lifecycle.specs.declared.command.Status.TheVariants.{Running, Stopped}
use Rattle.lifecycle.proofs.CommandLaws.{status_ended, status_made, status_started}
use Rattle.lifecycle.proofs.runtime.Runtime.find.Goals as goal
use Rattle.lifecycle.proofs.runtime.Runtime.find.Goals.{in-Made, in-Started, in-Ended}

pub returns-clause-some : goal.returns-clause-some
returns-clause-some g c =
    let kept = c.in_ok-name.ensures.some in
    let e = c.in_ok-name.field-0.entry in
    let ps = g.K.Kernel.processes c.args.self.now.kernel c.args.id.now in record {
      name = kept.name;
      kept = kept.kept;
      status = elim c.match-entry.branch [
        | in-Made w ↦ w.status-is ∙ sym (status_made e ps w.in-Made.is)
        | in-Started w ↦ w.status-is ∙ (w.begun_status-status.ensures
            ∙ (ap (λ q. if lives_in (g.K.Kernel.processes c.args.self.now.kernel q) then Running else Stopped) kept.name
            ∙ sym (status_started e ps w.in-Started.is)))
        | in-Ended w ↦ w.status-is ∙ sym (status_ended e ps w.in-Ended.is)
      ];
      distinct = kept.distinct;
    }
