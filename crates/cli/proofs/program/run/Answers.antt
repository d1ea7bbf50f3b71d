use Rattle.std.proofs.Common.{◌∙◌, ℕ, List, ap, inl, inr, map, refl, subst, sym, Vec, Global}
use Rattle.std.specs.Prelude.{Err}
use Rattle.std.proofs.lemmas.Result.{err_from_is_err_and}
use Rattle.cli.specs.Dispatch.{HaveBundles}
use Rattle.cli.proofs.program.run.Goals as goal

abbrev bytes_of : Vec ℕ Global → List ℕ
bytes_of t = t.items

pub returns-in_err-texts : goal.returns-in_err-texts
returns-in_err-texts g c =
    let told = err_from_is_err_and c.from_residual.result c.from_residual.ensures.1 in
    inl (
      refl,
      record {
        stop = c.in_err-texts.field-0.0;
        at = c.in_err-texts.ensures.err;
        told = told.1 ∙ ap Err told.2;
        unwritten = refl;
      },
    )

pub returns : goal.returns
returns g c = inr (
  map bytes_of c.deref.result.now,
  subst (λ (l : List (Vec ℕ Global)). HaveBundles c.args.native (g.F.Files.folder c.args.files.now) (map (λ b. b.now) c.args.bundles.now) (map bytes_of l))
      (sym c.deref.ensures.value) c.in_ok-texts.ensures.ok,
  c.run_bundles.ensures.runs,
)
