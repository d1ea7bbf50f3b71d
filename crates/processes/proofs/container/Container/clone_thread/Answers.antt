use Rattle.std.proofs.Common.{◌≡◌, ◌<◌, ◌≤◌, Some, refl, ◌∙◌, ap, arith}
use Rattle.std.proofs.lemmas.Bool.{le-ltb, lt-ltb}
use Rattle.std.proofs.lemmas.Option.{get_or_from_slice_get, slice_get_read}
use Rattle.std.proofs.lemmas.Result.{IfOk-from_err, IfOk-weaker, err_from_is_err_and}
use Rattle.std.specs.Prelude.{slice_get}
use Rattle.processes.specs.declared.task.Task.{Task}
use Rattle.processes.proofs.Rooted.{rooted_at}
use Rattle.processes.proofs.container.Container.clone_thread.Goals as goal

pub returns-then-self-ge-MOST_TASKS-clause-ok : goal.returns-then-self-ge-MOST_TASKS-clause-ok
returns-then-self-ge-MOST_TASKS-clause-ok g c = λ t h.
    let full : 1024 ≤ c.args.self.now.made = omega arith in
    rw (le-ltb c.args.self.now.made 1024 full) refl

pub returns-in_err-filters-clause-ok : goal.returns-in_err-filters-clause-ok
returns-in_err-filters-clause-ok g c = IfOk-from_err _ _ c.from_residual.ensures.0

pub returns-in_err-filters-clause-err : goal.returns-in_err-filters-clause-err
returns-in_err-filters-clause-err g c = let p = err_from_is_err_and c.from_residual.result c.from_residual.ensures.1 in rw p.1 refl

pub add-requires-clause-room : goal.add-requires-clause-room
add-requires-clause-room g c = omega arith

pub add-requires-clause-rooted : goal.add-requires-clause-rooted
add-requires-clause-rooted g c =
    let old = c.args.self.now in
    let seen = g.S.Store.filters_of old.store in
    let t = c.index-caller.result.now in
    let here : slice_get old.tasks.items c.args.at
    ≡ Some t = slice_get_read old.tasks.items _ c.args.at t refl (omega (arith, c.requires)) c.index-caller.ensures in
    rw c.in_ok-filters.ensures (rooted_at seen old.tasks.items c.args.at t here old.rooted)

pub returns-clause-ok : goal.returns-clause-ok
returns-clause-ok g c =
    let seen = g.S.Store.filters_of c.args.self.now.store in
    IfOk-weaker c.add.result _ _
    (λ o kept t h.
    let room : c.args.self.now.made < 1024 = omega arith in
    let caller : c.index-caller.result.now ≡ t = c.index-caller.ensures
    ∙ get_or_from_slice_get c.args.self.now.tasks.items c.args.at t c.index-caller.result.now h in
    let same : seen c.in_ok-filters.filters ≡ seen t.filters = c.in_ok-filters.ensures ∙ ap (λ (u : Task _). seen u.filters) caller in
    kept ∙ rw (lt-ltb c.args.self.now.made 1024 room, same, caller) refl)
    c.add.ensures.ok

pub returns-clause-err : goal.returns-clause-err
returns-clause-err g c = c.add.ensures.err
