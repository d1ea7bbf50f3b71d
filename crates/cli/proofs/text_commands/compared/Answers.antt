use Rattle.cli.proofs.BundleLaws.{told_documents}
use Rattle.cli.specs.Compared.{TellsCompared}
use Rattle.cli.proofs.text_commands.compared.Goals as goal

pub returns-in-Ok : goal.returns-in-Ok
returns-in-Ok g c =
    told_documents c.args.native (g.F.Files.folder c.args.files.now) (g.F.Files.folder c.read_document.new.files) c.in-Ok.ensures.same
    c.args.old.now c.args.new.now c.in-Ok.first (TellsCompared c.args.at_most) c.in-Ok.ensures.ok c.compared_with.result
    c.compared_with.ensures
