use Rattle.allow_groups.proofs.AllowLaws.{is_allowing}
use Rattle.allow_groups.proofs.allowing.allowing.Goals as goal

pub returns-in-Ok : goal.returns-in-Ok
returns-in-Ok c =
    is_allowing c.args.profile.now c.args.calls.now c.in_ok-rules.rules.items c.native.result c.machines-machines.result.now c.in-Ok.allowing
    c.native.ensures c.machines-machines.ensures.machines c.machines-machines.ensures.is_profile c.in_ok-rules.ensures c.in-Ok.ensures.ok
