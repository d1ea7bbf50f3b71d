use Rattle.processes.specs.declared.outcome.End.TheVariants.{Signal}
use Rattle.processes.specs.Kept.{all_of}
use Rattle.processes.specs.inner.Table.{is_meant}
use Rattle.processes.specs.declared.tasks.Which.TheVariants.{All}
use Rattle.processes.proofs.Numbers.{where_kept}
use Rattle.processes.proofs.Rooted.{where_rooted}
use Rattle.processes.proofs.container.Container.end.Goals as goal

pub invariant_of-self : goal.invariant_of-self
invariant_of-self g c =
    let old = c.args.self.now in
    let seen = g.S.Store.filters_of old.store in
    let first = c.end_where.new.tasks.items in
    record {
      ordered = where_kept (is_meant c.args.which) c.args.end (all_of seen old.tasks.items) (all_of seen first) old.made (c.end_where.ensures seen) old.ordered;
      rooted = where_rooted (is_meant c.args.which) c.args.end (all_of seen old.tasks.items) (all_of seen first) (c.end_where.ensures seen) old.rooted;
    }

pub invariant_of-self-then-not-lives : goal.invariant_of-self-then-not-lives
invariant_of-self-then-not-lives g c =
    let old = c.args.self.now in
    let seen = g.S.Store.filters_of old.store in
    let first = c.end_where.new.tasks.items in
    let last = c.end_where-then-not-lives.new.tasks.items in
    record {
      ordered = where_kept (is_meant All) (Signal 9) (all_of seen first) (all_of seen last) old.made (c.end_where-then-not-lives.ensures seen)
          (where_kept (is_meant c.args.which) c.args.end (all_of seen old.tasks.items) (all_of seen first) old.made (c.end_where.ensures seen) old.ordered);
      rooted = where_rooted (is_meant All) (Signal 9) (all_of seen first) (all_of seen last) (c.end_where-then-not-lives.ensures seen)
          (where_rooted (is_meant c.args.which) c.args.end (all_of seen old.tasks.items) (all_of seen first) (c.end_where.ensures seen) old.rooted);
    }
