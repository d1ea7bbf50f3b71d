use Rattle.std.proofs.Common.{◌≡◌, [], arith, drop, length, take}
use Rattle.std.proofs.lemmas.List.{drop_all}
use Rattle.explain.specs.Audit.{firsts_behind}
use Rattle.explain.proofs.EventLaws.{next_alike, next_left, next_length, none_left, short_list, whole_list}
use Rattle.explain.proofs.audited.events.listed.Goals as goal

pub returns-then-len-ge-MOST_LISTED : goal.returns-then-len-ge-MOST_LISTED
returns-then-len-ge-MOST_LISTED c =
    let firsts = c.loop-event.firsts.items in
    let xs = c.args.events.now in
    let i = c.loop-event.event-index in
    let long : length firsts ≡ 1024 =
    omega (arith, c.if-len-ge-MOST_LISTED.true, c.len.ensures, c.loop-event.firsts.ok.0, c.loop-event.invariant.few) in
    whole_list 1024 firsts (firsts_behind (take i xs) (drop i xs)) (firsts_behind [] xs) c.loop-event.invariant.left long

pub loop-event-preserved : goal.loop-event-preserved
loop-event-preserved c =
    let xs = c.args.events.now in
    let i = c.loop-event.event-index in
    let next = c.in_ok-put_first.ensures (take i xs) c.loop-event.invariant.alike in
    let grown = next_length _ _ _ _ next in
    record {
      left = next_left xs i _ _ _ _ c.loop-event-test.true next c.loop-event.invariant.left;
      alike = next_alike xs i _ _ _ c.loop-event-test.true next;
      few = omega (arith, grown, c.if-len-ge-MOST_LISTED.false, c.len.ensures, c.loop-event.firsts.ok.0);
    }

pub returns : goal.returns
returns c =
    let firsts = c.loop-event.firsts.items in
    let xs = c.args.events.now in
    let i = c.loop-event.event-index in
    short_list 1024 firsts (firsts_behind [] xs)
    (none_left (take i xs) firsts (drop i xs) (firsts_behind [] xs) (drop_all i xs c.loop-event-test.false) c.loop-event.invariant.left)
    c.loop-event.invariant.few
