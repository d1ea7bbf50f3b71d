use Rattle.cli.proofs.ReadLaws.{refuses}
use Rattle.cli.proofs.showing.rules_of.Goals as goal

pub returns-in-Ok : goal.returns-in-Ok
returns-in-Ok c = c.told_text.ensures c.args.document.now.native c.args.document.now.bytes c.in-Ok.ensures.ok

pub returns-in-Err : goal.returns-in-Err
returns-in-Err c =
    refuses c.args.document.now.native c.args.document.now.bytes c.in-Err.error c.in-Err.ensures.err c.refused_profile.result c.refused_profile.ensures.told
    c.refused_profile.ensures.fault
