use Rattle.std.proofs.Common.{◌≡◌, Some, refl, ◌∙◌, arith, subst, sym, IsTrue}
use Rattle.std.specs.Prelude.{slice_get}
use Rattle.std.proofs.lemmas.Option.{get_or_from_slice_get, slice_get_read}
use Rattle.processes.specs.declared.outcome.End.TheVariants.{Signal}
use Rattle.processes.specs.Kernel.{executed, is_sibling}
use Rattle.processes.specs.Tasks.{end_where}
use Rattle.processes.specs.Kept.{all_of, process_of}
use Rattle.processes.proofs.ImageLemmas.{bare_order, execute_over, image_kept}
use Rattle.processes.proofs.Numbers.{where_kept}
use Rattle.processes.proofs.Rooted.{image_rooted, rooted_at}
use Rattle.processes.proofs.container.Container.execute.Goals as goal

pub take_over-requires-clause-ordered : goal.take_over-requires-clause-ordered
take_over-requires-clause-ordered g c =
    let old = c.args.self.now in
    let seen = g.S.Store.filters_of old.store in (
      old.made,
      subst IsTrue (sym (bare_order seen 0 c.end_where.new.tasks.items old.made))
          (where_kept _ (Signal 9) (all_of seen old.tasks.items) (all_of seen c.end_where.new.tasks.items) old.made (c.end_where.ensures seen) old.ordered),
    )

pub invariant_of-self : goal.invariant_of-self
invariant_of-self g c =
    let old = c.args.self.now in
    let seen = g.S.Store.filters_of old.store in
    let t = c.index-caller.result.now in
    let here : slice_get old.tasks.items c.args.at
    ≡ Some t = slice_get_read old.tasks.items _ c.args.at t refl (omega (arith, c.requires)) c.index-caller.ensures in
    let ended : all_of seen c.end_where.new.tasks.items
    ≡ end_where (is_sibling (process_of seen t)) (Signal 9) (all_of seen old.tasks.items) = rw (
      c.from.ensures,
      c.from-2.ensures,
    ) at (c.end_where.ensures seen) in
    let all : all_of seen c.take_over.new.tasks.items ≡ executed (process_of seen t) (all_of seen old.tasks.items) =
    execute_over seen old.tasks.items c.end_where.new.tasks.items c.take_over.new.tasks.items c.args.at t here ended (c.take_over.ensures seen) in
    record {
      ordered = image_kept (process_of seen t) (all_of seen old.tasks.items) (all_of seen c.take_over.new.tasks.items) old.made all old.ordered;
      rooted = image_rooted (process_of seen t) (all_of seen old.tasks.items) (all_of seen c.take_over.new.tasks.items) all
          (rooted_at seen old.tasks.items c.args.at t here old.rooted) old.rooted;
    }

pub returns : goal.returns
returns g c = λ t h.
    let old = c.args.self.now in
    let seen = g.S.Store.filters_of old.store in
    let same : c.index-caller.result.now ≡ t = c.index-caller.ensures
    ∙ get_or_from_slice_get old.tasks.items c.args.at t c.index-caller.result.now h in
    let ended : all_of seen c.end_where.new.tasks.items
    ≡ end_where (is_sibling (process_of seen t)) (Signal 9) (all_of seen old.tasks.items) = rw (
      c.from.ensures,
      c.from-2.ensures,
      same,
    ) at (c.end_where.ensures seen) in
    let all : all_of seen c.take_over.new.tasks.items ≡ executed (process_of seen t) (all_of seen old.tasks.items) =
    execute_over seen old.tasks.items c.end_where.new.tasks.items c.take_over.new.tasks.items c.args.at t h ended (c.take_over.ensures seen) in
    rw all refl
