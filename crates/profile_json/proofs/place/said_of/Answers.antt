use Rattle.serde_json.specs.View.{view}
use Rattle.profile_json.specs.Fault.{fault_of}
use Rattle.profile_json.proofs.reading.PlaceTop.{default_at, keys_at, archs_at}
use Rattle.profile_json.proofs.place.said_of.Goals as goal

pub returns-in-Err-clause-err : goal.returns-in-Err-clause-err
returns-in-Err-clause-err c =
    default_at (view c.args.seccomp.now) c.args.native c.family-family.result (fault_of c.in-Err.error) c.family-family.ensures
    c.in-Err.ensures

pub returns-in-Err-check_keys-clause-err : goal.returns-in-Err-check_keys-clause-err
returns-in-Err-check_keys-clause-err c =
    keys_at (view c.args.seccomp.now) c.args.native c.family-family.result (fault_of c.in-Err-check_keys.error) c.family-family.ensures
    c.in-Err-check_keys.ensures

pub returns-in-Err-archs_of-clause-err : goal.returns-in-Err-archs_of-clause-err
returns-in-Err-archs_of-clause-err c =
    archs_at (view c.args.seccomp.now) c.args.native (fault_of c.in-Err-archs_of.error) c.in-Err-archs_of.ensures.reading
