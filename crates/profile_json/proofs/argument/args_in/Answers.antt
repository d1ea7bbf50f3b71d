use Rattle.std.proofs.Common.{arith, map}
use Rattle.serde_json.specs.View.{view}
use Rattle.profile_json.specs.Fault.{fault_of}
use Rattle.profile_json.proofs.reading.ArgPlaces.{arg_at, named_push}
use Rattle.profile_json.proofs.reading.Conditions.{room, apart_push, args_step}
use Rattle.profile_json.proofs.reading.PlaceLaws.{value_at}
use Rattle.profile_json.proofs.argument.args_in.Goals as goal

pub push-requires : goal.push-requires
push-requires c = (omega arith, room c.loop-at.found.items c.in-Ok.cond c.loop-at.invariant.apart c.in-Ok.ensures.fresh)

pub loop-at-preserved : goal.loop-at-preserved
loop-at-preserved c = record {
  reading = args_step c.loop-at.found.items c.in-Ok.cond c.push.new.self.items c.args.values.now c.loop-at.at
      c.index-values-at.result _ c.loop-at-test.true c.index-values-at.is c.push.ensures.items c.in-Ok.ensures.reading
      c.loop-at.invariant.reading;
  apart = rw c.push.ensures.items (apart_push c.loop-at.found.items c.in-Ok.cond c.loop-at.invariant.apart c.in-Ok.ensures.fresh);
  named = named_push (map view c.args.values.now) c.loop-at.at (view c.index-values-at.result)
      (value_at c.args.values.now c.loop-at.at c.index-values-at.result c.loop-at-test.true c.index-values-at.is)
      c.loop-at.found.items c.loop-at.invariant.named c.in-Ok.cond c.push.new.self.items c.push.ensures.items c.in-Ok.ensures.reading;
}

pub returns-in-Err-clause-err : goal.returns-in-Err-clause-err
returns-in-Err-clause-err c =
    arg_at (map view c.args.values.now) c.loop-at.at (view c.index-values-at.result)
    (value_at c.args.values.now c.loop-at.at c.index-values-at.result c.loop-at-test.true c.index-values-at.is)
    c.loop-at.found.items c.loop-at.invariant.named (fault_of c.in-Err.error) c.in-Err.ensures.reading
