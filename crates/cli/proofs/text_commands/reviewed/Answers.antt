use Rattle.std.specs.Prelude.{Ok}
use Rattle.review.specs.Reviewed.{IsReviewed}
use Rattle.cli.proofs.BundleLaws.{told_document}
use Rattle.cli.proofs.text_commands.reviewed.Goals as goal

pub returns-in-Ok-review : goal.returns-in-Ok-review
returns-in-Ok-review g c =
    told_document c.args.native (g.F.Files.folder c.args.files.now) c.args.bundle.now c.in-Ok.document IsReviewed c.in-Ok.ensures.ok
    (Ok c.in-Ok-review.told) c.in-Ok-review.ensures
