use Rattle.std.proofs.Common.{Some, refl, ap, subst, ◌∙◌}
use Rattle.std.specs.Map.{lookup, set_value}
use Rattle.processes.specs.Views.{same_text}
use Rattle.lifecycle.specs.declared.entry.Entry.{Entry}
use Rattle.lifecycle.specs.Listed.{known_in, listed}
use Rattle.lifecycle.specs.Places.{Known, at_phase, listed_by}
use Rattle.lifecycle.specs.Entries.{FindsAt}
use Rattle.lifecycle.proofs.Places.{ArePlaced, finds_at, found_is_kept, phased, set_in}
use Rattle.lifecycle.proofs.register.Register.come_to.Goals as goal

pub invariant_of-self : goal.invariant_of-self
invariant_of-self c =
    let here = c.args.self.now in
    let new : Known = λ q. lookup (same_text q) c.set_phase.new.kept.entries in
    record {
      placed = phased (known_in here) new c.args.id.now c.args.phase here.order.items (λ n e. (c.set_phase.ensures.there n e).0)
          (λ e q. ap (lookup (same_text q)) (c.set_phase.ensures.absent e)) here.placed;
      rising = here.rising;
    }

pub returns-clause-entries : goal.returns-clause-entries
unfolding listed
returns-clause-entries c = λ e found.
    let here = c.args.self.now in
    let ps = here.order.items in
    let id = c.args.id.now in
    let new : Known = λ q. lookup (same_text q) c.set_phase.new.kept.entries in
    let kept = found_is_kept (known_in here) ps here.placed id e found in
    set_in (known_in here) new id kept.0 (at_phase c.args.phase kept.0) ps 0 here.next (c.set_phase.ensures.there kept.0 kept.1).0 kept.1 refl here.rising
    ∙ ap (λ (x : Entry). set_value (same_text id) (listed_by (known_in here) ps) (record x { phase = c.args.phase })) kept.2

pub returns-clause-finds : goal.returns-clause-finds
unfolding listed
returns-clause-finds c = λ e found.
    let here = c.args.self.now in
    let ps = here.order.items in
    let id = c.args.id.now in
    let new : Known = λ q. lookup (same_text q) c.set_phase.new.kept.entries in
    let kept = found_is_kept (known_in here) ps here.placed id e found in
    let placed : ArePlaced new ps = phased (known_in here) new id c.args.phase ps (λ n e. (c.set_phase.ensures.there n e).0)
    (λ e q. ap (lookup (same_text q)) (c.set_phase.ensures.absent e)) here.placed in
    subst (λ (x : Entry). FindsAt (listed_by (known_in here) ps) (listed_by new ps) id (Some (record x { phase = c.args.phase }))) kept.2
    (finds_at (known_in here) new ps ps id (Some (at_phase c.args.phase kept.0)) here.placed placed (c.set_phase.ensures.there kept.0 kept.1).0)
