use Rattle.std.proofs.Common.{None, Some, sym, ap, refl}
use Rattle.processes.specs.First.{by_program}
use Rattle.lifecycle.specs.declared.command.Reply.TheVariants.{Refused, IsIn}
use Rattle.lifecycle.specs.declared.fault.Refusal.TheVariants.{NoContainer}
use Rattle.lifecycle.specs.Commands.Command.{State}
use Rattle.lifecycle.specs.Listed.{listed}
use Rattle.lifecycle.specs.Views.{world_of}
use Rattle.lifecycle.specs.Entries.{container_of, world_from}
use Rattle.lifecycle.proofs.Entries.{not_there, there, unchanged}
use Rattle.lifecycle.proofs.runtime.Runtime.state.Goals as goal

pub returns-in-Some : goal.returns-in-Some
unfolding world_of
returns-in-Some g c =
    let k = g.K.Kernel.processes c.args.self.now.kernel in
    let id = c.args.id.now in
    let es = listed c.args.self.now.entries in
    let found = c.in-Some.ensures.some in
    let container = container_of c.in-Some.field-0.entry (k id) in
    unchanged by_program (State id) (world_from k es) (Some container) (IsIn c.in-Some.field-0.status) (there k id es c.in-Some.field-0.entry found.kept)
    (ap (λ s. (IsIn s, Some container)) (sym found.status))

pub returns-in-None : goal.returns-in-None
unfolding world_of
returns-in-None g c =
    let k = g.K.Kernel.processes c.args.self.now.kernel in
    let id = c.args.id.now in
    let es = listed c.args.self.now.entries in
    unchanged by_program (State id) (world_from k es) None (Refused NoContainer) (not_there k id es c.in-None.ensures.none) refl
