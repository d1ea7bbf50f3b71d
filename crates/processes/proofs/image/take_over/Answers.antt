use Rattle.std.proofs.Common.{◌≡◌, ◌<◌, None, ◌∙◌, ap, subst, IsTrue}
use Rattle.std.specs.Prelude.{find, length, option_map, slice_get}
use Rattle.std.proofs.lemmas.Option.{get_or_from_slice_get}
use Rattle.processes.specs.declared.task.Task.{Task}
use Rattle.processes.specs.Kernel.{renewed}
use Rattle.processes.specs.Tasks.{ascends, is_task}
use Rattle.processes.specs.Kept.{all_of, process_of}
use Rattle.processes.proofs.ImageLemmas.{bare_order, leader_over, mover_nowhere, mover_over}
use Rattle.processes.proofs.image.take_over.Goals as goal

pub returns-then-caller-group : goal.returns-then-caller-group
returns-then-caller-group g c = λ seen t h.
    let old = c.args.tasks.now.items in
    let order : IsTrue (ascends 0 (all_of seen old) c.requires.ordered.0) = subst IsTrue (bare_order seen 0 old c.requires.ordered.0) c.requires.ordered.1 in
    let same : c.index-caller.result.now ≡ t = c.index-caller.ensures ∙ get_or_from_slice_get old c.args.at t c.index-caller.result.now h in
    let at : c.index_mut.result.now ≡ t = c.index_mut.ensures.value ∙ get_or_from_slice_get old c.args.at t c.index_mut.result.now h in
    leader_over seen old c.args.at c.requires.ordered.0 t c.renew.new.task order h (rw same at c.if-caller-group.true)
    (c.renew.ensures seen ∙ ap (λ (u : Task g.row.H.Denot). renewed (process_of seen u)) at)

pub returns-in-Some : goal.returns-in-Some
returns-in-Some g c = λ seen t h.
    let old = c.args.tasks.now.items in
    let order : IsTrue (ascends 0 (all_of seen old) c.requires.ordered.0) = subst IsTrue (bare_order seen 0 old c.requires.ordered.0) c.requires.ordered.1 in
    let rest = c.remove-caller.new.self.items in
    let same : c.index-caller.result.now ≡ t = c.index-caller.ensures ∙ get_or_from_slice_get old c.args.at t c.index-caller.result.now h in
    let out : c.remove-caller.result ≡ t = c.remove-caller.ensures.value ∙ get_or_from_slice_get old c.args.at t c.remove-caller.result h in
    let found : find (is_task t.group) (all_of seen rest)
    ≡ option_map (process_of seen) (slice_get rest c.in-Some.place) = rw (
      c.from.ensures,
      same,
      c.deref.ensures.value,
      c.in-Some.is,
    ) at (c.index_of.ensures.found seen) in
    let within : c.in-Some.place < length rest = rw (c.in-Some.is, c.deref.ensures.value) at c.index_of.ensures.within in
    mover_over seen old rest c.args.at c.in-Some.place c.requires.ordered.0 t c.renew-2.new.task order h (rw same at c.if-caller-group.false) c.remove-caller.ensures.items
    found within (c.renew-2.ensures seen ∙ ap (λ (u : Task g.row.H.Denot). renewed (process_of seen u)) out)

pub returns-in_default : goal.returns-in_default
returns-in_default g c = λ seen t h.
    let old = c.args.tasks.now.items in
    let order : IsTrue (ascends 0 (all_of seen old) c.requires.ordered.0) = subst IsTrue (bare_order seen 0 old c.requires.ordered.0) c.requires.ordered.1 in
    let rest = c.remove-caller.new.self.items in
    let same : c.index-caller.result.now ≡ t = c.index-caller.ensures ∙ get_or_from_slice_get old c.args.at t c.index-caller.result.now h in
    let none : find (is_task t.group) (all_of seen rest) ≡ None = rw (
      c.from.ensures,
      same,
      c.deref.ensures.value,
      c.in_default.is,
    ) at (c.index_of.ensures.found seen) in
    mover_nowhere seen old rest c.args.at c.requires.ordered.0 t order h (rw same at c.if-caller-group.false) c.remove-caller.ensures.items none
