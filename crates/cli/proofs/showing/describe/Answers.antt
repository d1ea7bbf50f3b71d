use Rattle.std.specs.Prelude.{Ok}
use Rattle.cli.specs.Read.{TellsRead}
use Rattle.cli.proofs.BundleLaws.{told_document}
use Rattle.cli.proofs.showing.describe.Goals as goal

pub returns-in-Ok-described : goal.returns-in-Ok-described
returns-in-Ok-described g c =
    told_document c.args.native (g.F.Files.folder c.args.files.now) c.args.bundle.now c.in-Ok.document TellsRead c.in-Ok.ensures.ok
    (Ok c.in-Ok-described.told) c.in-Ok-described.ensures
