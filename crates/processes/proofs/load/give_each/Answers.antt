use Rattle.std.proofs.Common.{◌≡◌, ◌+◌, ◌<◌, ◌∷◌, [], ◌++◌, inl, inr, List, length, get_or, add-one, arith, ap, ◌∙◌, vec_len, All}
use Rattle.std.proofs.Common.{subst, sym}
use Rattle.std.specs.Prelude.{if◌then◌else◌}
use Rattle.std.proofs.lemmas.Bool.{cases_Bool}
use Rattle.std.proofs.lemmas.List.{length_push}
use Rattle.processes.specs.Tasks.{Filter, Process}
use Rattle.processes.specs.Kept.{process_of}
use Rattle.processes.specs.inner.Table.{bare_of, is_taker}
use Rattle.processes.proofs.Lists.{map_more, map_whole}
use Rattle.processes.proofs.LoadLemmas.{count_here, front, last, left_other, left_taken, taker_bare}
use Rattle.processes.proofs.load.give_each.Goals as goal

pub give-requires : goal.give-requires
give-requires g c = λ h. count_here (is_taker c.args.takers) c.loop-task.tasks c.loop-task.task-index c.task-item.result _ (omega arith) h c.loop-task.invariant.left

pub loop-task-preserved : goal.loop-task-preserved
loop-task-preserved g c =
    let xs = c.loop-task.tasks in
    let i = c.loop-task.task-index in
    let d = c.task-item.result in
    let y = c.give.new.task in
    let inside : i < length xs = omega arith in
    elim (cases_Bool (is_taker c.args.takers (bare_of (get_or xs i d)))) [
      | inl h ↦
          let got = c.give.ensures.taker h in
          let fewer : length c.loop-task.handles.items ≡ length c.give.new.handles.items + 1 = ap length got.1
          ∙ length_push c.give.new.handles.items got.0 in
          let popped : vec_len c.loop-task.handles ≡ vec_len c.give.new.handles + 1 = omega arith in
          record {
            left = left_taken (is_taker c.args.takers) xs i y d (vec_len c.loop-task.handles) (vec_len c.give.new.handles) inside h c.loop-task.invariant.left popped;
            same = λ seen filters all.
                let whole : All (λ handle. seen handle ≡ filters) (c.give.new.handles.items
                ++ got.0 ∷ []) = subst (All (λ (handle : g.row.H.Denot). seen handle
                ≡ filters)) got.1 (c.loop-task.invariant.same seen filters all) in
                front (λ handle. seen handle ≡ filters) c.give.new.handles.items got.0 whole;
            seen = λ seen filters all.
                let whole : All (λ handle. seen handle ≡ filters) (c.give.new.handles.items
                ++ got.0 ∷ []) = subst (All (λ (handle : g.row.H.Denot). seen handle
                ≡ filters)) got.1 (c.loop-task.invariant.same seen filters all) in
                let these : seen got.0 ≡ filters = last (λ handle. seen handle ≡ filters) c.give.new.handles.items got.0 whole in
                let now : process_of seen y ≡ (if is_taker c.args.takers (process_of seen (get_or xs i d)) then record (process_of seen (get_or xs i d)) { filters = filters; listener = c.args.listener } else process_of seen (get_or xs i d)) =
                rw (taker_bare seen c.args.takers (get_or xs i d), h) (got.2 seen
                ∙ ap (λ (fs : List Filter). record (process_of seen (get_or xs i d)) { filters = fs; listener = c.args.listener }) these) in
                rw add-one (map_more (process_of seen) (λ (u : Process). if is_taker c.args.takers u then record u { filters = filters; listener = c.args.listener } else u) c.args.tasks.now xs i y d
                (c.loop-task.invariant.seen seen filters all) (omega arith) now);
          }
      | inr h ↦
          let left = c.give.ensures.other h in
          let as_many : length c.give.new.handles.items ≡ length c.loop-task.handles.items = ap length left.0 in
          let kept : vec_len c.give.new.handles ≡ vec_len c.loop-task.handles = omega arith in
          record {
            left = kept ∙ left_other (is_taker c.args.takers) xs i y d (vec_len c.loop-task.handles) inside h c.loop-task.invariant.left;
            same = λ seen filters all. subst (All (λ (handle : g.row.H.Denot). seen handle
                ≡ filters)) (sym left.0) (c.loop-task.invariant.same seen filters all);
            seen = λ seen filters all.
                let now : process_of seen y ≡ (if is_taker c.args.takers (process_of seen (get_or xs i d)) then record (process_of seen (get_or xs i d)) { filters = filters; listener = c.args.listener } else process_of seen (get_or xs i d)) =
                rw (taker_bare seen c.args.takers (get_or xs i d), h) (left.1 seen) in
                rw add-one (map_more (process_of seen) (λ (u : Process). if is_taker c.args.takers u then record u { filters = filters; listener = c.args.listener } else u) c.args.tasks.now xs i y d
                (c.loop-task.invariant.seen seen filters all) (omega arith) now);
          }
    ]

pub returns : goal.returns
returns g c = λ seen filters all.
    map_whole (process_of seen) (λ (u : Process). if is_taker c.args.takers u then record u { filters = filters; listener = c.args.listener } else u) c.args.tasks.now c.loop-task.tasks c.loop-task.task-index
    (c.loop-task.invariant.seen seen filters all) (omega arith)
