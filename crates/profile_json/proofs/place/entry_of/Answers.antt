use Rattle.serde_json.specs.View.{view}
use Rattle.profile_json.specs.Fault.{fault_of}
use Rattle.profile_json.proofs.reading.PlaceLaws.{member_at, verdict_at, arg_member_at}
use Rattle.profile_json.proofs.place.entry_of.Goals as goal

pub returns-in-Err-names_of-clause-err : goal.returns-in-Err-names_of-clause-err
returns-in-Err-names_of-clause-err c =
    member_at c.args.family (view c.args.value.now) (view c.in-Ok.entry.now) c.in-Ok.ensures c.in-Err-names_of.told.part
    (fault_of c.in-Err-names_of.told.error) c.in-Err-names_of.ensures.err

pub returns-in-Err-verdict_of-clause-err : goal.returns-in-Err-verdict_of-clause-err
returns-in-Err-verdict_of-clause-err c =
    verdict_at c.args.family (view c.args.value.now) (view c.in-Ok.entry.now) c.in-Ok.ensures (fault_of c.in-Err-verdict_of.error)
    c.in-Err-verdict_of.ensures

pub returns-clause-err : goal.returns-clause-err
returns-clause-err c =
    arg_member_at c.args.family (view c.args.value.now) (view c.in-Ok.entry.now) c.in-Ok.ensures c.in-Err-args_of.told.part
    (fault_of c.in-Err-args_of.told.error) (c.in-Err-args_of.ensures.err c.args.family)
