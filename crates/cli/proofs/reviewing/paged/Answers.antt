use Rattle.std.specs.Prelude.{Ok}
use Rattle.machines.specs.declared.arch.Arch.{Arch}
use Rattle.cli.specs.Paged.{TellsPage}
use Rattle.cli.proofs.BundleLaws.{told_document}
use Rattle.cli.proofs.reviewing.paged.Goals as goal

pub returns-in-Ok-page_text : goal.returns-in-Ok-page_text
returns-in-Ok-page_text g c =
    told_document c.args.native (g.F.Files.folder c.args.files.now) c.args.bundle.now c.in-Ok.document
    (λ (n : Arch). TellsPage n c.args.bundle.now) c.in-Ok.ensures.ok (Ok c.in-Ok-page_text.told) c.in-Ok-page_text.ensures
