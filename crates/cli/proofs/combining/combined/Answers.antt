use Rattle.std.proofs.Common.{map}
use Rattle.cli.specs.Combined.{TellsCombined}
use Rattle.cli.specs.Told.{OfEach}
use Rattle.cli.specs.inner.Telling.{told_in}
use Rattle.cli.proofs.DispatchLaws.{now_of}
use Rattle.cli.proofs.FormLaws.{told_each_in_form}
use Rattle.cli.proofs.combining.combined.Goals as goal

pub returns : goal.returns
returns g c = record {
  bundles = map now_of c.form_in-as_bundle.result.0.now;
  as_bundle = c.form_in-as_bundle.result.1;
  named = c.form_in-as_bundle.ensures;
  is =
      told_each_in_form c.args.native c.form_in-as_bundle.result.1 (g.F.Files.folder c.args.files.now) (map now_of c.form_in-as_bundle.result.0.now) (OfEach c.args.native (TellsCombined c.args.native c.args.way))
      (told_in c.combined_of_files-made.result) (told_in c.in_form.result) c.combined_of_files-made.ensures c.in_form.ensures;
}
