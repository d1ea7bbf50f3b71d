use Rattle.std.proofs.Common.{ap, map, subst, sym, ◌∙◌}
use Rattle.std.specs.Prelude.{option_map}
use Rattle.cli.specs.inner.Telling.{IsLearnedBy, told_in}
use Rattle.cli.proofs.DispatchLaws.{now_of}
use Rattle.cli.proofs.logs.learned_by.Goals as goal

pub returns-in-Some : goal.returns-in-Some
returns-in-Some g c =
    subst (λ f. IsLearnedBy (g.F.Files.folder c.args.files.now) c.args.native f (map now_of c.args.words.now) (told_in c.widened.result))
    (sym (ap (option_map (λ f. (f.0.now, map now_of f.1.now))) c.in-Some.is) ∙ c.from_in.ensures) c.widened.ensures

pub returns-in-None : goal.returns-in-None
returns-in-None g c =
    subst (λ f. IsLearnedBy (g.F.Files.folder c.args.files.now) c.args.native f (map now_of c.args.words.now) (told_in c.bundle_of.result))
    (sym (ap (option_map (λ f. (f.0.now, map now_of f.1.now))) c.in-None.is) ∙ c.from_in.ensures) c.bundle_of.ensures
