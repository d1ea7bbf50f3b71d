use Rattle.machines.specs.declared.arch.Arch.{Arch}
use Rattle.cli.specs.Paged.{TellsPages}
use Rattle.cli.proofs.BundleLaws.{told_documents}
use Rattle.cli.proofs.reviewing.both_paged.Goals as goal

pub returns-in-Ok : goal.returns-in-Ok
returns-in-Ok g c =
    told_documents c.args.native (g.F.Files.folder c.args.files.now) (g.F.Files.folder c.read_document.new.files) c.in-Ok.ensures.same
    c.args.names.0.now c.args.names.1.now c.in-Ok.first (λ (n : Arch). TellsPages n c.args.names.0.now c.args.names.1.now)
    c.in-Ok.ensures.ok c.both_paged_with.result c.both_paged_with.ensures
