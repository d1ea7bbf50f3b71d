use Rattle.std.proofs.Common.{arith, rules}
use Rattle.serde_json.specs.View.{view}
use Rattle.profile_json.specs.Fault.{fault_of}
use Rattle.profile_json.proofs.reading.Steps.{is_nil}
use Rattle.profile_json.proofs.reading.PlaceLaws.{no_names_at, none_at, many_names_at}
use Rattle.profile_json.proofs.syscalls.names_of.Goals as goal

pub returns-in-Err-clause-err : goal.returns-in-Err-clause-err
returns-in-Err-clause-err c = no_names_at c.args.family (view c.args.entry.now) (fault_of c.in-Err.error) c.in-Err.ensures

pub returns-then-is_empty-clause-err : goal.returns-then-is_empty-clause-err
returns-then-is_empty-clause-err c =
    none_at c.args.family (view c.args.entry.now) c.in-Ok.values.now c.in-Ok.ensures (is_nil c.in-Ok.values.now (search rules))

pub returns-then-values-most_names-clause-err : goal.returns-then-values-most_names-clause-err
returns-then-values-most_names-clause-err c =
    let t = c.if-values-most_names.true in
    many_names_at c.args.family (view c.args.entry.now) c.in-Ok.values.now c.in-Ok.ensures c.most_names.result c.most_names.ensures
    (omega (arith, t))
