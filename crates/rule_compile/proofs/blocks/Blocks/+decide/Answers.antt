use Rattle.std.proofs.Common.{◌≡◌, ℕ, ◌+◌, ◌^◌, ◌∙◌, ap, sym, subst, arith, get_or, length, vec_len, max}
use Rattle.std.specs.Prelude.{None, Some, IfSome, slice_get}
use Rattle.std.proofs.lemmas.Option.{get_or_from_slice_get}
use Rattle.rule_compile.specs.inner.Built.{IsFoundAt, IsReached}
use Rattle.rule_compile.specs.inner.Left.{AreStarts, SaysAlike}
use Rattle.rule_compile.specs.inner.Stands.{AreRanged, HasMore, IsFound}
use Rattle.rule_compile.proofs.BlocksLaws.{found_met, found_open, if_found, kept_found, ranged_next, ranged_none, reached_first, reached_next, sound_same}
use Rattle.rule_compile.proofs.DecidesLaws.{before_le, more_length, more_on, more_same}
use Rattle.rule_compile.proofs.blocks.Blocks.+decide.Goals as goal

pub decide-returns-in-Some-find-clause-found : goal.decide-returns-in-Some-find-clause-found
decide-returns-in-Some-find-clause-found m c =
    kept_found c.args.self.now c.args.rules.now c.args.other.now c.in-Some-find.block c.requires.sound (c.in-Some-find.ensures {u = tt})

pub decide-returns-then-not-has_room-clause-sound : goal.decide-returns-then-not-has_room-clause-sound
decide-returns-then-not-has_room-clause-sound m c =
    sound_same c.args.self.now c.has_room.new.self c.has_room.ensures.blocks c.has_room.ensures.known c.requires.sound

pub decide-loop-place-init : goal.decide-loop-place-init
decide-loop-place-init m c =
    let a = c.args.self.now in
    let b = c.has_room.new.self in
    let bs = b.blocks.items in
    let os = c.args.rules.now in
    let other = c.args.other.now in
    let subject = c.in-Some.subject in
    let these = c.deref-start-items.result.now in
    let are : AreStarts os subject these =
    subst (AreStarts os subject) (sym c.deref-start-items.ensures.value) (c.in_ok-starts.ensures {u = tt}) in
    record {
      sound = sound_same a b c.has_room.ensures.blocks c.has_room.ensures.known c.requires.sound;
      more = subst (HasMore a.blocks.items) (sym c.has_room.ensures.blocks) (more_same a.blocks.items);
      known = c.has_room.ensures.known;
      calls = c.has_room.ensures.calls;
      other =
          before_le (vec_len a.blocks) (vec_len b.blocks) (omega (arith, a.blocks.ok, b.blocks.ok, ap length c.has_room.ensures.blocks)) other
          c.requires.other;
      starts = are;
      reached = subst (IsReached these 0) (sym c.new-ranges.ensures.end) (reached_first os subject these are);
      ranged =
          subst (λ n. AreRanged bs os other subject c.new-ranges.result.ranges.items n) (sym c.new-ranges.ensures.end)
          (subst (λ xs. AreRanged bs os other subject xs 0) (sym c.new-ranges.ensures.ranges) (ranged_none bs os other subject));
      room = λ none. (c.has_room.ensures.none none).1;
    }

pub decide-loop-place-preserved : goal.decide-loop-place-preserved
decide-loop-place-preserved m c =
    let a = c.loop-place.self in
    let b = c.leaf_at.new.self in
    let inv = c.loop-place.invariant in
    let os = c.args.rules.now in
    let other = c.args.other.now in
    let subject = c.in-Some.subject in
    let these = c.deref-start-items.result.now in
    let k = c.loop-place.place in
    let from = c.loop-place.ranges.end in
    let end = c.end_of.result in
    let to = c.in-Some-2.leaf in
    let inside = c.loop-place-test.true in
    let all = c.in_ok-leaf.ensures.more in
    let same : c.deref.result.now ≡ these = c.deref.ensures.value ∙ sym c.deref-start-items.ensures.value in
    let number : get_or these k 0 ≡ from = get_or_from_slice_get these k from 0 (inv.reached.start inside) in
    let found : IsFoundAt b.blocks.items os other subject from to =
    subst (λ n. IsFoundAt b.blocks.items os other subject n to) number
    (subst (λ o. IfSome o (IsFoundAt b.blocks.items os other subject (get_or these k 0))) c.in-Some-2.is c.in_ok-leaf.ensures.found) in
    let next : (n : ℕ) → slice_get these (k + 1) ≡ Some n → end ≡ n =
    λ n at. c.end_of.ensures.next n (ap (λ xs. slice_get xs (k + 1)) same ∙ at) in
    let last : slice_get these (k + 1) ≡ None → end ≡ 2 ^ 32 =
    λ at. c.end_of.ensures.last (ap (λ xs. slice_get xs (k + 1)) same ∙ at) in
    let before = before_le (vec_len a.blocks) (length a.blocks.items) (omega (arith, a.blocks.ok)) other inv.other in
    let longer : AreRanged b.blocks.items os other subject c.add.new.self.ranges.items (max from end) =
    ranged_next a.blocks.items b.blocks.items os other subject these k from end c.loop-place.ranges.ranges.items
    c.add.new.self.ranges.items to all c.in_ok-leaf.ensures.sound.blocks_are before inv.starts inv.reached inside next last inv.ranged found
    c.in_ok-add.ensures.extended in
    record {
      sound = c.in_ok-leaf.ensures.sound;
      more = more_on inv.more all;
      known = c.in_ok-leaf.ensures.known ∙ inv.known;
      calls = c.in_ok-leaf.ensures.calls ∙ inv.calls;
      other =
          before_le (vec_len a.blocks) (vec_len b.blocks) (omega (arith, a.blocks.ok, b.blocks.ok, more_length all)) other inv.other;
      starts = inv.starts;
      reached =
          subst (IsReached these (k + 1)) (sym c.in_ok-add.ensures.end)
          (reached_next os subject these k from end inv.starts inv.reached inside next last);
      ranged =
          subst (AreRanged b.blocks.items os other subject c.add.new.self.ranges.items) (sym c.in_ok-add.ensures.end) longer;
      room = λ none. c.in_ok-leaf.ensures.room (inv.room none);
    }

pub decide-push-requires-clause-ranged : goal.decide-push-requires-clause-ranged
decide-push-requires-clause-ranged m c =
    let inv = c.loop-place.invariant in
    subst (AreRanged c.loop-place.self.blocks.items c.args.rules.now c.args.other.now c.in-Some.subject c.loop-place.ranges.ranges.items)
    (inv.reached.all c.loop-place-test.false) inv.ranged

pub leaf_at-returns-in-Met-clause-found : goal.leaf_at-returns-in-Met-clause-found
leaf_at-returns-in-Met-clause-found m c =
    let os = c.args.rules.now in
    found_met c.args.self.now.blocks.items os c.args.other.now c.args.subject c.args.start c.in-Met.word
    (λ r alike. subst (SaysAlike os r) c.in-Met.is (c.in_ok-word.ensures.says c.requires.rules r alike))

pub leaf_at-returns-in-Open-clause-found : goal.leaf_at-returns-in-Open-clause-found
leaf_at-returns-in-Open-clause-found m c =
    let os = c.args.rules.now in
    let others = c.in-Open.open.items in
    let bs = c.decide.new.self.blocks.items in
    if_found (IsFound bs c.deref.result.now c.args.other.now) (IsFoundAt bs os c.args.other.now c.args.subject c.args.start)
    (λ to found.
    found_open bs os c.args.other.now c.args.subject c.args.start others to
    (λ r alike. subst (SaysAlike os r) c.in-Open.is (c.in_ok-word.ensures.says c.requires.rules r alike))
    (subst (λ xs. IsFound bs xs c.args.other.now to) c.deref.ensures.value found))
    c.decide.result c.decide.ensures.found
