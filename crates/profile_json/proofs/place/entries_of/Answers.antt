use Rattle.std.proofs.Common.{arith}
use Rattle.serde_json.specs.View.{view}
use Rattle.profile_json.specs.Fault.{fault_of}
use Rattle.profile_json.proofs.reading.PlaceTop.{no_list_at, many_at, entries_told}
use Rattle.profile_json.proofs.place.entries_of.Goals as goal

pub returns-in-Err-clause-err : goal.returns-in-Err-clause-err
returns-in-Err-clause-err c = no_list_at (view c.args.seccomp.now) c.args.native (fault_of c.in-Err.error) c.in-Err.ensures

pub returns-then-values-most_entries-clause-err : goal.returns-then-values-most_entries-clause-err
returns-then-values-most_entries-clause-err c =
    let t = c.if-values-most_entries.true in
    many_at (view c.args.seccomp.now) c.args.native c.family-family.result c.in-Ok.values.now c.most_entries.result c.family-family.ensures
    c.most_entries.ensures (omega (arith, t)) c.in-Ok.ensures

pub returns-clause-err : goal.returns-clause-err
returns-clause-err c =
    entries_told (view c.args.seccomp.now) c.args.native c.family-family.result c.in-Ok.values.now c.entries_in.result
    c.family-family.ensures c.in-Ok.ensures c.entries_in.ensures.err
