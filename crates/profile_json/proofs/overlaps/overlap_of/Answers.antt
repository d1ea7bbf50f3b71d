use Rattle.std.proofs.Common.{ℕ, ◌<◌, List, map, length, ap, arith}
use Rattle.profile_json.specs.Fault.{overlap}
use Rattle.profile_json.specs.inner.View.{entry_parts}
use Rattle.profile_json.proofs.clashing.Seconds.{chosen, none_chosen, within, later_of, entry_read, before_second, none_more, past_all}
use Rattle.profile_json.proofs.overlaps.overlap_of.Goals as goal

pub unreachable-requires : goal.unreachable-requires
unreachable-requires c =
    none_chosen c.args.machines.now (map entry_parts c.args.entries.now) c.args.ends.now c.args.place c.requires.ends_are
    c.requires.clash c.in_default.ensures

pub unreachable-requires-in_default-get : goal.unreachable-requires-in_default-get
unreachable-requires-in_default-get c =
    let is = chosen c.args.machines.now (map entry_parts c.args.entries.now) c.args.ends.now c.args.place c.in-Some.second
    c.requires.ends_are c.requires.clash c.in-Some.ensures in
    past_all c.in-Some.second (length c.args.entries.now) (within c.args.entries.now c.in-Some.second is.y is.y_at)
    c.in_default-get.ensures.lookup.0

pub returns-in-Some-clash_of : goal.returns-in-Some-clash_of
returns-in-Some-clash_of c =
    let later = later_of c.args.machines.now c.args.entries.now c.args.ends.now c.args.place c.in-Some.second c.in-Some-get.later.now
    c.requires.ends_are c.requires.clash c.in-Some.ensures c.in-Some-get.ensures.lookup.1 in
    record {
      first = c.loop-first.first;
      second = c.in-Some.second;
      in_order = before_second c.args.machines.now (map entry_parts c.args.entries.now) c.in-Some.second c.loop-first.first
          (entry_parts c.in-Some-get.later.now) later.second later.at c.loop-first.invariant;
      x = entry_parts c.index-entries-first.result;
      x_at = entry_read c.args.entries.now c.loop-first.first c.index-entries-first.result c.loop-first-test.true
          c.index-entries-first.is;
      y = entry_parts c.in-Some-get.later.now;
      y_at = later.at;
      name = c.in-Some-clash_of.name.now;
      clash = c.in-Some-clash_of.ensures.found;
      fault_is = ap (λ (n : List ℕ). overlap n c.loop-first.first c.in-Some.second) c.short_name.ensures;
    }

pub loop-first-preserved : goal.loop-first-preserved
loop-first-preserved c =
    let x_at = entry_read c.args.entries.now c.loop-first.first c.index-entries-first.result c.loop-first-test.true
    c.index-entries-first.is in
    none_more c.args.machines.now (map entry_parts c.args.entries.now) c.loop-first.first (entry_parts c.index-entries-first.result)
    (entry_parts c.in-Some-get.later.now) x_at c.in_default-clash_of.ensures.none c.loop-first.invariant

pub unreachable-requires-2 : goal.unreachable-requires-2
unreachable-requires-2 c =
    let later = later_of c.args.machines.now c.args.entries.now c.args.ends.now c.args.place c.in-Some.second c.in-Some-get.later.now
    c.requires.ends_are c.requires.clash c.in-Some.ensures c.in-Some-get.ensures.lookup.1 in
    let order : c.loop-first.first < c.in-Some.second = before_second c.args.machines.now (map entry_parts c.args.entries.now)
    c.in-Some.second c.loop-first.first (entry_parts c.in-Some-get.later.now) later.second later.at c.loop-first.invariant in
    let inside = later.inside in
    let all = c.loop-first-test.false in
    absurd (omega (arith, order, inside, all))
