use Rattle.std.proofs.Common.{map}
use Rattle.byte_order.specs.Turned.{read_as}
use Rattle.cli.specs.Combined.{TellsStack}
use Rattle.cli.specs.inner.Telling.{told_in}
use Rattle.cli.proofs.DispatchLaws.{now_of}
use Rattle.cli.proofs.FormLaws.{told_each_in_form}
use Rattle.cli.proofs.combining.stacked.Goals as goal

pub returns : goal.returns
returns g c = record {
  filters = map now_of c.form_in-as_bundle.result.0.now;
  as_bundle = c.form_in-as_bundle.result.1;
  named = c.form_in-as_bundle.ensures;
  is =
      told_each_in_form c.args.native c.form_in-as_bundle.result.1 (g.F.Files.folder c.args.files.now) (map now_of c.form_in-as_bundle.result.0.now) (λ files. TellsStack c.args.native (map (read_as c.args.native) files))
      (told_in c.stack_of_files-made.result) (told_in c.in_form.result) c.stack_of_files-made.ensures c.in_form.ensures;
}
