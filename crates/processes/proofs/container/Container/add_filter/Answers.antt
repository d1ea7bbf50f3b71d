use Rattle.std.proofs.Common.{◌≡◌, ◌+◌, ◌∷◌, List, refl, ◌∙◌, ap}
use Rattle.std.proofs.lemmas.Option.{get_or_from_slice_get}
use Rattle.std.proofs.lemmas.Result.{err_from_is_err_and}
use Rattle.kernel_check.specs.Lent.{accepted_insns}
use Rattle.processes.specs.Stores.{program_filter}
use Rattle.processes.specs.Tasks.{Filter}
use Rattle.processes.specs.Kept.{all_of}
use Rattle.processes.specs.inner.Table.{given, is_taker}
use Rattle.processes.proofs.LoadLemmas.{given_kept, loaded_by}
use Rattle.processes.proofs.Rooted.{given_rooted, seen_same}
use Rattle.processes.proofs.container.Container.add_filter.Goals as goal

-- no memory: the store may have changed, and what is seen of it has not
pub invariant_of-self : goal.invariant_of-self
invariant_of-self g c =
    let old = c.args.self.now in
    let seen = g.S.Store.filters_of old.store in
    let later = g.S.Store.filters_of c.with_newer.new.self in
    let whole : all_of later old.tasks.items
    ≡ all_of seen old.tasks.items = seen_same seen later old.tasks.items c.with_newer.ensures.others old.rooted in
    record { ordered = rw whole old.ordered; rooted = rw whole old.rooted }

pub returns-in_err-handles-clause-err : goal.returns-in_err-handles-clause-err
returns-in_err-handles-clause-err g c =
    let old = c.args.self.now in
    let seen = g.S.Store.filters_of old.store in
    let later = g.S.Store.filters_of c.with_newer.new.self in
    let p = err_from_is_err_and c.from_residual.result c.from_residual.ensures.1 in
    let whole : all_of later old.tasks.items
    ≡ all_of seen old.tasks.items = seen_same seen later old.tasks.items c.with_newer.ensures.others old.rooted in
    rw (p.1, whole, c.in_err-handles.ensures.err) refl

pub invariant_of-self-2 : goal.invariant_of-self-2
invariant_of-self-2 g c =
    let old = c.args.self.now in
    let seen = g.S.Store.filters_of old.store in
    let later = g.S.Store.filters_of c.with_newer.new.self in
    let fs : List Filter = program_filter (g.S.Store.loads_of old.store + 1) (accepted_insns c.args.program.now)
    ∷ seen c.index-caller.result.now.filters in
    let whole : all_of later old.tasks.items
    ≡ all_of seen old.tasks.items = seen_same seen later old.tasks.items c.with_newer.ensures.others old.rooted in
    let after : all_of later c.give_all.new.tasks.items ≡ given (is_taker c.args.takers) c.listener_after-listener.result fs (all_of seen old.tasks.items) =
    c.give_all.ensures later fs c.in_ok-handles.ensures.handles ∙ ap (given (is_taker c.args.takers) c.listener_after-listener.result fs) whole in
    record {
      ordered = given_kept (is_taker c.args.takers) c.listener_after-listener.result fs (all_of seen old.tasks.items) (all_of later c.give_all.new.tasks.items) old.made after old.ordered;
      rooted = given_rooted (is_taker c.args.takers) c.listener_after-listener.result fs (all_of seen old.tasks.items) (all_of later c.give_all.new.tasks.items) after refl old.rooted;
    }

pub returns-clause-ok : goal.returns-clause-ok
returns-clause-ok g c = λ t h same.
    let old = c.args.self.now in
    let seen = g.S.Store.filters_of old.store in
    let later = g.S.Store.filters_of c.with_newer.new.self in
    let caller : c.index-caller.result.now ≡ t = c.index-caller.ensures
    ∙ get_or_from_slice_get old.tasks.items c.args.at t c.index-caller.result.now h in
    let fs : List Filter = program_filter (g.S.Store.loads_of old.store + 1) (accepted_insns c.args.program.now) ∷ seen t.filters in
    let whole : all_of later old.tasks.items
    ≡ all_of seen old.tasks.items = seen_same seen later old.tasks.items c.with_newer.ensures.others old.rooted in
    let after : all_of later c.give_all.new.tasks.items ≡ given (is_taker c.args.takers) c.listener_after-listener.result fs (all_of seen old.tasks.items) =
    c.give_all.ensures later fs (rw caller at c.in_ok-handles.ensures.handles) ∙ ap (given (is_taker c.args.takers) c.listener_after-listener.result fs) whole in
    rw (
      loaded_by seen c.args.how.for_all (accepted_insns c.args.program.now) t (all_of seen old.tasks.items) (all_of later c.give_all.new.tasks.items) (is_taker c.args.takers)
          (g.S.Store.loads_of old.store + 1) c.listener_after-listener.result after same,
      c.in_ok-handles.ensures.loads,
      c.load_answer.ensures,
      c.listener_after-listener.ensures,
      c.loads-load.ensures,
      caller,
    ) refl
