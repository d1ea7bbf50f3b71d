use Rattle.std.proofs.Common.{◌+◌, Err, ap, arith, length, [], drop}
use Rattle.std.proofs.lemmas.List.{drop_all}
use Rattle.flatten.proofs.SizeLaws.{long_more, never_long, passed_on, returns_all, size_more}
use Rattle.flatten.proofs.AboveLaws.{begins, ends, goes_at, more_twice, no_turns, nothing_added}
use Rattle.flatten.proofs.above.put_turned.Goals as goal

pub loop-place-init : goal.loop-place-init
loop-place-init c = record {
  so_far = begins c.args.older.now c.args.area.now.items c.args.newer.now c.args.program.now.items c.requires.program_empty;
  turns = no_turns c.args.older.now c.args.area.now.items c.new-turns.result.items c.new-turns.ensures.items;
  more = nothing_added c.args.area.now.items c.requires.area_empty;
  size = let empty = ap length c.requires.area_empty in omega (arith, empty);
}

pub loop-place-preserved : goal.loop-place-preserved
loop-place-preserved c = record {
  so_far =
      goes_at c.args.older.now c.loop-place.area.items c.turned.new.area.items c.args.newer.now c.loop-place.program.items c.push.new.self.items
      c.loop-place.place _ c.in_ok-turned.turned c.in_ok-turned.ensures.more c.loop-place-test.true
      (λ more_. c.in_ok-turned.ensures.turned more_) c.in_ok-push.ensures.items c.loop-place.invariant.so_far;
  turns = c.in_ok-turned.ensures.turns;
  more = more_twice [] c.loop-place.area.items c.turned.new.area.items c.loop-place.invariant.more c.in_ok-turned.ensures.more;
  size =
      size_more c.args.newer.now c.loop-place.place _ (length c.args.older.now + 2) (length c.loop-place.area.items)
      (length c.turned.new.area.items) c.loop-place.invariant.size c.loop-place-test.true c.in_ok-turned.ensures.size;
}

pub returns-clause-turned : goal.returns-clause-turned
returns-clause-turned c =
    ends c.args.older.now c.loop-place.area.items c.args.newer.now (drop c.loop-place.place c.args.newer.now) c.loop-place.program.items
    (drop_all c.loop-place.place c.args.newer.now c.loop-place-test.false) c.loop-place.invariant.so_far

pub returns-in_err-turned-clause-long : goal.returns-in_err-turned-clause-long
returns-in_err-turned-clause-long c long =
    long_more c.args.newer.now c.loop-place.place _ (length c.args.older.now + 2) (length c.loop-place.area.items)
    c.loop-place.invariant.size c.loop-place-test.true
    (c.in_err-turned.ensures.long (ap Err (passed_on c.from_residual.result c.in_err-turned.field-0.0 c.from_residual.ensures.1 long)))

pub returns-in_err-push-clause-long : goal.returns-in_err-push-clause-long
returns-in_err-push-clause-long c long = absurd (never_long c.from_residual-in_err-push.result c.from_residual-in_err-push.ensures.1 long)

pub returns-clause-size : goal.returns-clause-size
returns-clause-size c =
    let most = returns_all c.args.newer.now c.loop-place.place (length c.args.older.now + 2) in
    let size = c.loop-place.invariant.size in
    omega (arith, most, size)
