use Rattle.std.proofs.Common.{map}
use Rattle.cli.specs.inner.Telling.{told_in}
use Rattle.cli.proofs.DispatchLaws.{now_of}
use Rattle.cli.proofs.adapting.adapted.Goals as goal

pub returns : goal.returns
returns g c =
    let made = c.grown_of-grown.ensures in
    record {
      others = map now_of c.form_in-as_bundle.result.0.now;
      as_bundle = c.form_in-as_bundle.result.1;
      named = c.form_in-as_bundle.ensures;
      made = made.0;
      is_made = made.1;
      grown = told_in c.grown_of-grown.result;
      grows = made.2;
      written = c.in_form.ensures;
    }
