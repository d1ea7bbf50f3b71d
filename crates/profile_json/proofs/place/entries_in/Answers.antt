use Rattle.std.proofs.Common.{map}
use Rattle.serde_json.specs.View.{view}
use Rattle.profile_json.specs.Fault.{fault_of}
use Rattle.profile_json.proofs.reading.PlaceLaws.{value_at}
use Rattle.profile_json.proofs.reading.PlaceTop.{one_of_them}
use Rattle.profile_json.proofs.place.entries_in.Goals as goal

pub returns-in-Err-clause-err : goal.returns-in-Err-clause-err
returns-in-Err-clause-err c =
    one_of_them c.args.family (map view c.args.values.now) c.loop-at.at (view c.index-values-at.result) c.in-Err.told.part
    (fault_of c.in-Err.told.error)
    (value_at c.args.values.now c.loop-at.at c.index-values-at.result c.loop-at-test.true c.index-values-at.is) c.in-Err.ensures.err
