-- What becomes of a call by the verdict on it, of the task that the code has found.
use Rattle.std.proofs.Common.{◌≡◌, ◌<◌, ◌&&◌, ℕ, Bool, Some, None, if◌then◌else◌, true, false, refl, sym, ◌∙◌, ap, arith, subst, length}
use Rattle.std.specs.Prelude.{option_map, slice_get}
use Rattle.std.proofs.lemmas.Option.{slice_get_read}
use Rattle.std.proofs.lemmas.Result.{IfOk-weaker, on_err_weaker}
use Rattle.call_record.specs.declared.layout.Record.{Record}
use Rattle.call_record.specs.Ends.{ends_of}
use Rattle.processes.specs.declared.outcome.Outcome.{Outcome}
use Rattle.processes.specs.Attached.{Beside}
use Rattle.processes.specs.Calls.{row_of}
use Rattle.processes.specs.Kernel.{can_grow, carried_out, ended_by_verdict, judged, judged_by, may_grow, passes, presented}
use Rattle.processes.specs.Kernel.{verdict_on, withheld}
use Rattle.processes.specs.Tasks.{Process, Processes, live_task}
use Rattle.processes.specs.Table.{processes_of}
use Rattle.processes.specs.Kept.{all_of, process_of}
use Rattle.processes.proofs.container.Container.present.Goals as goal

barred : (n v : ℕ) (t : Process) (r : Record) (b : Beside) (outcome : Outcome) (ps after : Processes)
    → live_task n ps.tasks ≡ Some t → v ≡ verdict_on r t → withheld v r b.response t ≡ Some outcome
    → after ≡ ended_by_verdict (ends_of v) t ps → (outcome, after) ≡ presented n r b ps
barred n v t r b outcome ps after found is stays ends = rw found (subst (λ w. (outcome, after) ≡ judged w t r b ps) is
    (ap (λ qs. (outcome, qs)) ends ∙ ap (λ o. judged_by o v t r b ps) (sym stays)))

let_through : (n v : ℕ) (t : Process) (r : Record) (b : Beside) (ps : Processes)
    → live_task n ps.tasks ≡ Some t → v ≡ verdict_on r t → withheld v r b.response t ≡ None
    → carried_out (row_of ps.native r) t r b.attached ps ≡ presented n r b ps
let_through n v t r b ps found is through = rw found (subst (λ w. carried_out (row_of ps.native r) t r b.attached ps
    ≡ judged w t r b ps) is (ap (λ o. judged_by o v t r b ps) (sym through)))

grows : (n v : ℕ) (t : Process) (r : Record) (b : Beside) (ps : Processes) → live_task n ps.tasks ≡ Some t
    → v ≡ verdict_on r t → withheld v r b.response t ≡ None
    → may_grow (row_of ps.native r) b.attached ps ≡ true → can_grow n r b ps ≡ true
grows n v t r b ps found is through grow = rw found (subst (λ w. (passes w r b t && may_grow (row_of ps.native r) b.attached ps)
    ≡ true) is (rw (through, grow) refl))

pub returns-in_default-clause-ok : goal.returns-in_default-clause-ok
returns-in_default-clause-ok g c =
    let seen = g.S.Store.filters_of c.args.self.now.store in
    let none : live_task c.args.task (all_of seen c.args.self.now.tasks.items)
    ≡ None = rw (c.deref.ensures.value, c.in_default.is) at (c.live_index.ensures.found seen) in
    rw none refl

pub index-requires : goal.index-requires
index-requires g c =
    let seen = g.S.Store.filters_of c.args.self.now.store in
    let within : c.in-Some.at < length c.args.self.now.tasks.items = rw (
      c.in-Some.is,
      c.deref.ensures.value,
    ) at c.live_index.ensures.within in
    omega arith

pub withheld-requires : goal.withheld-requires
withheld-requires g c =
    let seen = g.S.Store.filters_of c.args.self.now.store in
    let within : c.in-Some.at < length c.args.self.now.tasks.items = rw (
      c.in-Some.is,
      c.deref.ensures.value,
    ) at c.live_index.ensures.within in
    omega arith

pub end_by_verdict-requires : goal.end_by_verdict-requires
end_by_verdict-requires g c =
    let seen = g.S.Store.filters_of c.args.self.now.store in
    let within : c.in-Some.at < length c.args.self.now.tasks.items = rw (
      c.in-Some.is,
      c.deref.ensures.value,
    ) at c.live_index.ensures.within in
    omega arith

pub returns-in-Some-withheld-clause-ok : goal.returns-in-Some-withheld-clause-ok
returns-in-Some-withheld-clause-ok g c =
    let seen = g.S.Store.filters_of c.args.self.now.store in
    let tasks = c.args.self.now.tasks.items in
    let t = c.index.result.now in
    let within : c.in-Some.at < length tasks = rw (c.in-Some.is, c.deref.ensures.value) at c.live_index.ensures.within in
    let here : slice_get tasks c.in-Some.at ≡ Some t = slice_get_read tasks _ c.in-Some.at t refl within c.index.ensures in
    let place : live_task c.args.task (all_of seen tasks)
    ≡ option_map (process_of seen) (slice_get tasks c.in-Some.at) = rw (
      c.deref.ensures.value,
      c.in-Some.is,
    ) at (c.live_index.ensures.found seen) in
    barred c.args.task c.verdict-word.result (process_of seen t) c.args.rec.now _ c.in-Some-withheld.outcome (processes_of c.args.self.now) _ (place
    ∙ ap (option_map (process_of seen)) here)
    c.verdict-word.ensures (sym (c.withheld.ensures t here) ∙ c.in-Some-withheld.is) (c.end_by_verdict.ensures t here)

pub carry_out-requires : goal.carry_out-requires
carry_out-requires g c =
    let seen = g.S.Store.filters_of c.args.self.now.store in
    let within : c.in-Some.at < length c.args.self.now.tasks.items = rw (
      c.in-Some.is,
      c.deref.ensures.value,
    ) at c.live_index.ensures.within in
    omega arith

pub returns-clause-ok : goal.returns-clause-ok
returns-clause-ok g c =
    let seen = g.S.Store.filters_of c.args.self.now.store in
    let tasks = c.args.self.now.tasks.items in
    let t = c.index.result.now in
    let within : c.in-Some.at < length tasks = rw (c.in-Some.is, c.deref.ensures.value) at c.live_index.ensures.within in
    let here : slice_get tasks c.in-Some.at ≡ Some t = slice_get_read tasks _ c.in-Some.at t refl within c.index.ensures in
    let place : live_task c.args.task (all_of seen tasks)
    ≡ option_map (process_of seen) (slice_get tasks c.in-Some.at) = rw (
      c.deref.ensures.value,
      c.in-Some.is,
    ) at (c.live_index.ensures.found seen) in
    IfOk-weaker c.carry_out.result _ _
    (λ o kept. kept t here
    ∙ let_through c.args.task c.verdict-word.result (process_of seen t) c.args.rec.now _ (processes_of c.args.self.now) (place
    ∙ ap (option_map (process_of seen)) here)
    c.verdict-word.ensures (sym (c.withheld.ensures t here) ∙ c.in_default-withheld.is))
    c.carry_out.ensures.ok

pub returns-clause-err : goal.returns-clause-err
returns-clause-err g c = c.carry_out.ensures.err

pub returns-clause-growth : goal.returns-clause-growth
returns-clause-growth g c =
    let seen = g.S.Store.filters_of c.args.self.now.store in
    let tasks = c.args.self.now.tasks.items in
    let t = c.index.result.now in
    let within : c.in-Some.at < length tasks = rw (c.in-Some.is, c.deref.ensures.value) at c.live_index.ensures.within in
    let here : slice_get tasks c.in-Some.at ≡ Some t = slice_get_read tasks _ c.in-Some.at t refl within c.index.ensures in
    let place : live_task c.args.task (all_of seen tasks)
    ≡ option_map (process_of seen) (slice_get tasks c.in-Some.at) = rw (
      c.deref.ensures.value,
      c.in-Some.is,
    ) at (c.live_index.ensures.found seen) in
    on_err_weaker c.carry_out.result
    (grows c.args.task c.verdict-word.result (process_of seen t) c.args.rec.now _ (processes_of c.args.self.now) (place
    ∙ ap (option_map (process_of seen)) here)
    c.verdict-word.ensures (sym (c.withheld.ensures t here) ∙ c.in_default-withheld.is))
    c.carry_out.ensures.growth
