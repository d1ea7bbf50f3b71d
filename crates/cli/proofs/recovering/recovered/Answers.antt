use Rattle.std.proofs.Common.{[], ◌∷◌, map, subst}
use Rattle.byte_order.specs.Turned.{read_as}
use Rattle.cli.specs.Recovered.{TellsAsked}
use Rattle.cli.specs.Told.{of_one}
use Rattle.cli.specs.Written.{WritesMade}
use Rattle.cli.specs.inner.Telling.{IsToldOf, told_in}
use Rattle.cli.proofs.FormLaws.{told_in_form}
use Rattle.cli.proofs.recovering.recovered.Goals as goal

pub returns : goal.returns
returns g c =
    let words = map (λ w. w.now) c.args.words.now in
    let folder = g.F.Files.folder c.args.files.now in
    let names = c.args.filter.now ∷ [] in
    subst (λ b. IsToldOf folder names (of_one (λ file. WritesMade c.args.native b (TellsAsked c.args.native words (read_as c.args.native file)))) (told_in c.in_form.result))
    c.has_word.ensures
    (told_in_form c.args.native c.has_word.result folder names (λ file. TellsAsked c.args.native words (read_as c.args.native file)) (told_in c.bundle_of_file-made.result)
    (told_in c.in_form.result) c.bundle_of_file-made.ensures c.in_form.ensures)
