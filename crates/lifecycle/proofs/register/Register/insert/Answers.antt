use Rattle.std.proofs.Common.{◌≡◌, ℕ, ◌+◌, ◌∷◌, [], ◌++◌, List, Some, true, sym, ap, subst, ◌∙◌, arith}
use Rattle.std.specs.Map.{lookup}
use Rattle.processes.specs.Views.{same_text}
use Rattle.lifecycle.specs.declared.register.Numbered.{Numbered}
use Rattle.lifecycle.specs.declared.register.Place.{Place}
use Rattle.lifecycle.specs.Listed.{known_in, listed}
use Rattle.lifecycle.specs.Places.{IsRising, Known, is_placed, listed_by}
use Rattle.lifecycle.proofs.CommandLaws.{on_err}
use Rattle.lifecycle.proofs.Places.{ArePlaced, ChangesAt, added_in, finds_at, not_kept, placed_last, placed_more, placed_kept, rising_push, some_is}
use Rattle.lifecycle.proofs.register.Register.insert.Goals as goal

pub returns-in_err-append-clause-err : goal.returns-in_err-append-clause-err
unfolding listed
returns-in_err-append-clause-err c =
    let here = c.args.self.now in
    on_err c.from_residual.result
    (ap (λ es. listed_by (λ q. lookup (same_text q) es) c.append.new.order.items) c.in_err-append.ensures.kept_err
    ∙ ap (listed_by (known_in here)) c.in_err-append.ensures.order_err)

-- what has a place still has one, and so has the new one
placed : (old new : Known) (k : Numbered) (q : List ℕ) (ps : List Place) → ChangesAt old new q (Some k) → ArePlaced old ps
    → ArePlaced new (ps ++ record { name = q; number = k.number } ∷ [])
placed old new k q ps change before =
    let p : Place = record { name = q; number = k.number } in
    placed_kept old new q (Some k) (ps ++ p ∷ []) change (λ r n is. placed_more r n.number ps (p ∷ []) (before r n is)) (λ n e.
    let same : k ≡ n = some_is k n e in
    subst (λ (m : Numbered). is_placed q m.number (ps ++ p ∷ []) ≡ true) same (placed_last p ps))

pub invariant_of-self-2 : goal.invariant_of-self-2
invariant_of-self-2 c =
    let here = c.args.self.now in
    let ps = here.order.items in
    let q = c.args.name in
    let new : Known = λ r. lookup (same_text r) c.append.new.kept.entries in
    let k : Numbered = record { entry = c.args.entry; number = here.next } in
    let more : List Place = ps ++ record { name = q; number = here.next } ∷ [] in
    let next : c.in-Some.next ≡ here.next + 1 = omega arith in
    record {
      placed = subst (ArePlaced new) (sym c.in_ok-append.ensures.order) (placed (known_in here) new k q ps c.in_ok-append.ensures.kept.0 here.placed);
      rising = subst (IsRising 0 c.in-Some.next) (sym c.in_ok-append.ensures.order)
          (subst (λ n. IsRising 0 n more) (sym next) (rising_push ps 0 here.next q here.rising));
    }

pub returns-clause-entries : goal.returns-clause-entries
unfolding listed
returns-clause-entries c =
    let here = c.args.self.now in
    let ps = here.order.items in
    let q = c.args.name in
    let new : Known = λ r. lookup (same_text r) c.append.new.kept.entries in
    ap (listed_by new) c.in_ok-append.ensures.order
    ∙ added_in (known_in here) new q c.args.entry ps 0 here.next c.in_ok-append.ensures.kept.0
    (not_kept (known_in here) ps here.placed q c.requires) here.rising

pub returns-clause-finds : goal.returns-clause-finds
unfolding listed
returns-clause-finds c =
    let here = c.args.self.now in
    let ps = here.order.items in
    let q = c.args.name in
    let new : Known = λ r. lookup (same_text r) c.append.new.kept.entries in
    let k : Numbered = record { entry = c.args.entry; number = here.next } in
    finds_at (known_in here) new ps c.append.new.order.items q (Some k) here.placed
    (subst (ArePlaced new) (sym c.in_ok-append.ensures.order) (placed (known_in here) new k q ps c.in_ok-append.ensures.kept.0 here.placed))
    c.in_ok-append.ensures.kept.0
