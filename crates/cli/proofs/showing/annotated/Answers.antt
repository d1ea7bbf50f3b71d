use Rattle.std.proofs.Common.{ℕ, List, [], ◌∷◌, subst, sym}
use Rattle.cli.specs.Told.{TellsFilter}
use Rattle.cli.specs.Files.{HasEnoughFilter}
use Rattle.cli.proofs.FileLaws.{filter_of_file}
use Rattle.cli.proofs.showing.annotated.Goals as goal

pub returns-in-Ok-shown_as : goal.returns-in-Ok-shown_as
returns-in-Ok-shown_as g c =
    let read = subst (λ (b : List ℕ). HasEnoughFilter c.args.native (g.F.Files.folder c.args.files.now) c.args.filter.now b) (sym c.deref.ensures.value)
    c.in-Ok.ensures.ok in (
      read.has.file ∷ [],
      (read.has.is, tt),
      subst (λ (f : List ℕ). TellsFilter f c.in-Ok-shown_as.told) read.has.read
          (filter_of_file read.filter c.deref.result.now read.enough c.in-Ok-shown_as.told c.in-Ok-shown_as.ensures),
    )
