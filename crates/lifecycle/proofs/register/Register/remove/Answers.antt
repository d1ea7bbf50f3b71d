use Rattle.std.proofs.Common.{None, sym, ap, subst, ◌∙◌}
use Rattle.std.specs.Map.{lookup}
use Rattle.processes.specs.Views.{same_text}
use Rattle.lifecycle.specs.Listed.{known_in, listed}
use Rattle.lifecycle.specs.Places.{IsRising, Known, is_there, listed_by}
use Rattle.lifecycle.proofs.Places.{ArePlaced, finds_at, listed_filter, placed_filter, placed_kept, removed_in, rising_filter}
use Rattle.lifecycle.proofs.register.Register.remove.Goals as goal

pub invariant_of-self : goal.invariant_of-self
invariant_of-self c =
    let here = c.args.self.now in
    let ps = here.order.items in
    let new : Known = λ q. lookup (same_text q) c.swap_remove.new.self.entries in
    let kept : ArePlaced new ps = placed_kept (known_in here) new c.args.id.now None ps c.swap_remove.ensures.updates.0 here.placed (λ n e. absurd (cc)) in
    record {
      placed = subst (ArePlaced new) (sym c.close_up.ensures) (placed_filter new ps kept);
      rising = subst (IsRising 0 here.next) (sym c.close_up.ensures) (rising_filter (is_there new) ps 0 here.next here.rising);
    }

pub invariant_of-self-else-len : goal.invariant_of-self-else-len
invariant_of-self-else-len c =
    let here = c.args.self.now in
    let new : Known = λ q. lookup (same_text q) c.swap_remove.new.self.entries in
    record {
      placed = placed_kept (known_in here) new c.args.id.now None here.order.items c.swap_remove.ensures.updates.0 here.placed (λ n e. absurd (cc));
      rising = here.rising;
    }

pub returns-then-len-clause-entries : goal.returns-then-len-clause-entries
unfolding listed
returns-then-len-clause-entries c =
    let here = c.args.self.now in
    let ps = here.order.items in
    let new : Known = λ q. lookup (same_text q) c.swap_remove.new.self.entries in
    ap (listed_by new) c.close_up.ensures
    ∙ listed_filter new ps
    ∙ removed_in (known_in here) new c.args.id.now ps 0 here.next c.swap_remove.ensures.updates.0 here.rising

pub returns-then-len-clause-finds : goal.returns-then-len-clause-finds
unfolding listed
returns-then-len-clause-finds c =
    let here = c.args.self.now in
    let ps = here.order.items in
    let new : Known = λ q. lookup (same_text q) c.swap_remove.new.self.entries in
    let kept : ArePlaced new ps = placed_kept (known_in here) new c.args.id.now None ps c.swap_remove.ensures.updates.0 here.placed (λ n e. absurd (cc)) in
    finds_at (known_in here) new ps c.close_up.new.order.items c.args.id.now None here.placed
    (subst (ArePlaced new) (sym c.close_up.ensures) (placed_filter new ps kept)) c.swap_remove.ensures.updates.0

pub returns-else-len-clause-entries : goal.returns-else-len-clause-entries
unfolding listed
returns-else-len-clause-entries c =
    let here = c.args.self.now in
    let new : Known = λ q. lookup (same_text q) c.swap_remove.new.self.entries in
    removed_in (known_in here) new c.args.id.now here.order.items 0 here.next c.swap_remove.ensures.updates.0 here.rising

pub returns-else-len-clause-finds : goal.returns-else-len-clause-finds
unfolding listed
returns-else-len-clause-finds c =
    let here = c.args.self.now in
    let ps = here.order.items in
    let new : Known = λ q. lookup (same_text q) c.swap_remove.new.self.entries in
    finds_at (known_in here) new ps ps c.args.id.now None here.placed
    (placed_kept (known_in here) new c.args.id.now None ps c.swap_remove.ensures.updates.0 here.placed (λ n e. absurd (cc))) c.swap_remove.ensures.updates.0
