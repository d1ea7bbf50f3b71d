use Rattle.profile_json.specs.Fault.{fault_of}
use Rattle.profile_json.proofs.reading.PlaceIs.{told_stands}
use Rattle.profile_json.proofs.bundle.read_bundle.Goals as goal

pub returns-in-Err-clause-err : goal.returns-in-Err-clause-err
returns-in-Err-clause-err c =
    told_stands c.args.text.now c.args.native c.in-Err.told.place (fault_of c.in-Err.told.error) c.in-Err.ensures.err
