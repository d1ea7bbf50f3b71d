use Rattle.std.proofs.Common.{◌≡◌, None, Some, sym, ap, ◌∙◌, refl}
use Rattle.std.specs.Map.{remove_entry}
use Rattle.processes.specs.First.{by_program}
use Rattle.processes.specs.Views.{SetAt, same_text}
use Rattle.lifecycle.specs.declared.command.Reply.TheVariants.{Accepted, Refused}
use Rattle.lifecycle.specs.declared.fault.Refusal.TheVariants.{NoContainer, NotStopped}
use Rattle.lifecycle.specs.Commands.Command.{Delete}
use Rattle.lifecycle.specs.Steps.{delete}
use Rattle.lifecycle.specs.Listed.{listed}
use Rattle.lifecycle.specs.Views.{world_of}
use Rattle.lifecycle.specs.Entries.{FindsAt, container_of, world_from}
use Rattle.lifecycle.proofs.CommandLaws.{ids_kept, is_known, step_kept}
use Rattle.lifecycle.proofs.Entries.{changed, not_there, removed, there, unchanged}
use Rattle.lifecycle.proofs.SoundLaws.{sound_set}
use Rattle.lifecycle.proofs.runtime.Runtime.delete.Goals as goal

pub returns-in_default : goal.returns-in_default
unfolding world_of
returns-in_default g c =
    let k = g.K.Kernel.processes c.args.self.now.kernel in
    let id = c.args.id.now in
    let es = listed c.args.self.now.entries in
    unchanged by_program (Delete id) (world_from k es) None (Refused NoContainer) (not_there k id es c.in_default.ensures.none) refl

pub invariant_of-self : goal.invariant_of-self
invariant_of-self g c =
    let k = g.K.Kernel.processes in
    let id = c.args.id.now in
    let old = listed c.args.self.now.entries in
    let found = c.in-Some.ensures.some in
    let named = c.in-Some.field-0.name in
    let finds : FindsAt old (listed c.remove.new.self) named None = c.remove.ensures.finds in
    let known = is_known old id c.in-Some.field-0.entry c.args.self.now.ids found.kept in record {
      ids = ids_kept old (listed c.remove.new.self) named None finds (rw found.name known) c.args.self.now.ids;
      in_step = step_kept (k c.args.self.now.kernel) (k c.expel.new.self) old (listed c.remove.new.self) named None None c.expel.ensures finds refl c.args.self.now.in_step;
      sound = sound_set (k c.args.self.now.kernel) (k c.expel.new.self) named None c.expel.ensures tt c.args.self.now.sound;
    }

pub returns-in-Created : goal.returns-in-Created
unfolding world_of
returns-in-Created g c =
    let k = g.K.Kernel.processes c.args.self.now.kernel in
    let id = c.args.id.now in
    let es = listed c.args.self.now.entries in
    let found = c.in-Some.ensures.some in
    let container = container_of c.in-Some.field-0.entry (k id) in
    unchanged by_program (Delete id) (world_from k es) (Some container) (Refused NotStopped) (there k id es c.in-Some.field-0.entry found.kept)
    (ap (λ s. delete s container) (sym found.status ∙ c.in-Created.is))

pub returns-in-Running : goal.returns-in-Running
unfolding world_of
returns-in-Running g c =
    let k = g.K.Kernel.processes c.args.self.now.kernel in
    let id = c.args.id.now in
    let es = listed c.args.self.now.entries in
    let found = c.in-Some.ensures.some in
    let container = container_of c.in-Some.field-0.entry (k id) in
    unchanged by_program (Delete id) (world_from k es) (Some container) (Refused NotStopped) (there k id es c.in-Some.field-0.entry found.kept)
    (ap (λ s. delete s container) (sym found.status ∙ c.in-Running.is))

pub returns-in-Stopped : goal.returns-in-Stopped
unfolding world_of
returns-in-Stopped g c =
    let k = g.K.Kernel.processes in
    let id = c.args.id.now in
    let old = listed c.args.self.now.entries in
    let found = c.in-Some.ensures.some in
    let container = container_of c.in-Some.field-0.entry (k c.args.self.now.kernel id) in
    let gone : SetAt (k c.args.self.now.kernel) (k c.expel.new.self) id None = rw (sym found.name) c.expel.ensures in
    let entries : (listed c.remove.new.self) ≡ remove_entry (same_text id) old = c.remove.ensures.entries
    ∙ ap (λ q. remove_entry (same_text q) old) found.name in
    changed by_program (Delete id) (world_from (k c.args.self.now.kernel) old) (world_from (k c.expel.new.self) (listed c.remove.new.self)) (Some container) None Accepted
    (there (k c.args.self.now.kernel) id old c.in-Some.field-0.entry found.kept)
    (ap (λ s. delete s container) (sym found.status ∙ c.in-Stopped.is))
    (ap (world_from (k c.expel.new.self)) entries ∙ removed (k c.args.self.now.kernel) (k c.expel.new.self) id old gone found.distinct)
