use Rattle.std.specs.Prelude.{Ok}
use Rattle.cli.specs.Read.{TellsLinted}
use Rattle.cli.proofs.BundleLaws.{told_document}
use Rattle.cli.proofs.text_commands.linted.Goals as goal

pub returns-in-Ok-linted_text : goal.returns-in-Ok-linted_text
returns-in-Ok-linted_text g c =
    told_document c.args.native (g.F.Files.folder c.args.files.now) c.args.bundle.now c.in-Ok.document TellsLinted c.in-Ok.ensures.ok
    (Ok c.in-Ok-linted_text.told) c.in-Ok-linted_text.ensures
