use Rattle.std.proofs.Common.{◌+◌, arith, ap, length, map, take}
use Rattle.flatten.proofs.SizeLaws.{most_next, too_long}
use Rattle.flatten.proofs.StackLaws.{answers_so, at_place, lowest_plain, of_none, one_more, says_at, up_to}
use Rattle.flatten.proofs.flattened.all_above.Goals as goal

pub loop-place-init : goal.loop-place-init
loop-place-init c = record {
  so_far = of_none c.in-Ok.program.items c.in-Ok.ensures;
  plain = lowest_plain c.in-Ok.program.items c.in-Ok.ensures;
  small = omega (arith, ap length c.in-Ok.ensures);
  most = omega (arith, ap length c.in-Ok.ensures);
}

pub returns-in-Err-clause-fault : goal.returns-in-Err-clause-fault
returns-in-Err-clause-fault c =
    says_at (map (λ f. f.items) c.args.filters.now) c.loop-place.place c.deref.result.now c.in-Err.why
    (at_place (λ f. f.items) c.args.filters.now c.loop-place.place c.index-filters-place.result c.deref.result.now c.loop-place-test.true
    c.index-filters-place.is c.deref.ensures.value) c.in-Err.ensures.fault

pub loop-place-preserved : goal.loop-place-preserved
loop-place-preserved c = record {
  so_far =
      one_more (map (λ f. f.items) (take c.loop-place.place c.args.filters.now))
      (map (λ f. f.items) (take (c.loop-place.place + 1) c.args.filters.now)) c.deref.result.now c.deref-in-loop-place.result.now
      c.in-Ok-next_above.next.items
      (answers_so (map (λ f. f.items) (take c.loop-place.place c.args.filters.now)) c.loop-place.program.items c.deref-in-loop-place.result.now
      c.deref-in-loop-place.ensures.value c.loop-place.invariant.so_far) c.in-Ok-next_above.ensures.filter c.in-Ok-next_above.ensures.above
      (up_to (λ f. f.items) c.args.filters.now c.loop-place.place c.index-filters-place.result c.deref.result.now c.loop-place-test.true
      c.index-filters-place.is c.deref.ensures.value);
  plain = c.in-Ok-next_above.ensures.plain;
  small = c.in-Ok-next_above.ensures.small;
  most =
      most_next (length c.deref-in-loop-place.result.now) (length c.in-Ok-next_above.next.items)
      (map (λ f. f.items) (take c.loop-place.place c.args.filters.now))
      (map (λ f. f.items) (take (c.loop-place.place + 1) c.args.filters.now)) c.deref.result.now
      (up_to (λ f. f.items) c.args.filters.now c.loop-place.place c.index-filters-place.result c.deref.result.now c.loop-place-test.true
      c.index-filters-place.is c.deref.ensures.value)
      (omega (arith, ap length c.deref-in-loop-place.ensures.value, c.loop-place.invariant.most)) c.in-Ok-next_above.ensures.most;
}

pub returns-in-Err-clause-long : goal.returns-in-Err-clause-long
returns-in-Err-clause-long c long =
    too_long (λ f. f.items) c.args.filters.now c.loop-place.place (length c.deref-in-loop-place.result.now) c.deref.result.now
    (up_to (λ f. f.items) c.args.filters.now c.loop-place.place c.index-filters-place.result c.deref.result.now c.loop-place-test.true
    c.index-filters-place.is c.deref.ensures.value)
    (omega (arith, ap length c.deref-in-loop-place.ensures.value, c.loop-place.invariant.most))
    (c.in-Err.ensures.long long)
