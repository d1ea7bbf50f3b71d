use Rattle.std.specs.Prelude.{Ok}
use Rattle.cli.specs.Read.{TellsRules}
use Rattle.cli.proofs.BundleLaws.{told_document}
use Rattle.cli.proofs.showing.rules.Goals as goal

pub returns-in-Ok-rules_of : goal.returns-in-Ok-rules_of
returns-in-Ok-rules_of g c =
    told_document c.args.native (g.F.Files.folder c.args.files.now) c.args.bundle.now c.in-Ok.document TellsRules c.in-Ok.ensures.ok
    (Ok c.in-Ok-rules_of.told) c.in-Ok-rules_of.ensures
