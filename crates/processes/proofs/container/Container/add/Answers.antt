use Rattle.std.proofs.Common.{◌≡◌, ◌+◌, ◌∷◌, [], ◌++◌, None, ap, ◌∙◌, refl}
use Rattle.std.proofs.lemmas.List.{map-append}
use Rattle.processes.specs.Tasks.{Process}
use Rattle.processes.specs.Kept.{all_of, process_of}
use Rattle.processes.proofs.Numbers.{next_kept}
use Rattle.processes.proofs.Rooted.{next_rooted}
use Rattle.processes.proofs.container.Container.add.Goals as goal

pub invariant_of-self-2 : goal.invariant_of-self-2
invariant_of-self-2 g c =
    let old = c.args.self.now in
    let seen = g.S.Store.filters_of old.store in
    let u : Process = record {
      number = old.made + 1;
      group = c.args.group;
      parent = c.args.parent;
      images = 0;
      end = None;
      filters = seen c.args.filters;
      listener = c.args.listener;
    } in
    let e : all_of seen c.push.new.self.items ≡ all_of seen old.tasks.items ++ u ∷ [] = ap (all_of seen) c.in_ok-push.ensures.items
    ∙ map-append (process_of seen) old.tasks.items _ in
    record {
      ordered = next_kept (all_of seen old.tasks.items) (all_of seen c.push.new.self.items) u old.made e refl old.ordered;
      rooted = next_rooted (all_of seen old.tasks.items) (all_of seen c.push.new.self.items) u e c.requires.rooted old.rooted;
    }
