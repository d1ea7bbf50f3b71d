use Rattle.std.proofs.Common.{ℕ, List, [], ◌∷◌, subst, sym}
use Rattle.show.specs.Shown.{IsDrawn}
use Rattle.cli.specs.Files.{HasEnoughFilter}
use Rattle.cli.proofs.FileLaws.{shown_of_file}
use Rattle.cli.proofs.showing.drawn.Goals as goal

pub returns-in-Ok-drawn : goal.returns-in-Ok-drawn
returns-in-Ok-drawn g c =
    let read = subst (λ (b : List ℕ). HasEnoughFilter c.args.native (g.F.Files.folder c.args.files.now) c.args.filter.now b) (sym c.deref.ensures.value)
    c.in-Ok.ensures.ok in (
      read.has.file ∷ [],
      (read.has.is, tt),
      subst (λ (f : List ℕ). IsDrawn f c.in-Ok-drawn.told) read.has.read
          (shown_of_file read.filter c.deref.result.now read.enough _ _ c.in-Ok-drawn.told c.in-Ok-drawn.ensures),
    )
