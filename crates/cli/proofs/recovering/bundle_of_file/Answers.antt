use Rattle.std.proofs.Common.{ℕ, List, [], ◌∷◌, map, subst, sym}
use Rattle.cli.specs.Files.{HasEnoughFilter}
use Rattle.cli.specs.Recovered.{TellsAsked, allows_others}
use Rattle.cli.proofs.FileLaws.{recovered_of_file}
use Rattle.cli.proofs.recovering.bundle_of_file.Goals as goal

pub returns-in-Ok-bundle_by : goal.returns-in-Ok-bundle_by
returns-in-Ok-bundle_by g c =
    let read = subst (λ (b : List ℕ). HasEnoughFilter c.args.native (g.F.Files.folder c.args.files.now) c.args.filter.now b) (sym c.deref.ensures.value)
    c.in-Ok.ensures.ok in
    let words : List (List ℕ) = map (λ w. w.now) c.args.words.now in (
      read.has.file ∷ [],
      (read.has.is, tt),
      subst (λ (f : List ℕ). TellsAsked c.args.native words f c.in-Ok-bundle_by.both.told) read.has.read
          (recovered_of_file read.filter c.deref.result.now read.enough c.args.native words c.in-Ok-bundle_by.both.told
          (allows_others words) c.in-Ok-bundle_by.ensures),
    )
