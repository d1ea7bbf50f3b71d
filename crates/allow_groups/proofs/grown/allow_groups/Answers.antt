use Rattle.std.proofs.Common.{map}
use Rattle.call_groups.specs.Groups.{now_of}
use Rattle.allow_groups.proofs.AllowLaws.{has_groups, none_grown}
use Rattle.allow_groups.proofs.grown.allow_groups.Goals as goal

pub returns-in-Ok : goal.returns-in-Ok
returns-in-Ok c =
    has_groups c.args.native (map now_of c.args.groups.now) c.args.bundle.now c.in-Ok.read.profile c.in-Ok.ensures.ok c.told_for.result
    c.told_for.ensures

pub returns-in-Err : goal.returns-in-Err
returns-in-Err c = none_grown c.args.native (map now_of c.args.groups.now) c.args.bundle.now c.refused.result c.refused.ensures
