use Rattle.std.proofs.Common.{List, ap, inl, inr, map, refl, subst, ◌∙◌, ℕ}
use Rattle.std.specs.Prelude.{Err}
use Rattle.cli.specs.declared.stops.Stop.TheVariants.{OutOfMemory}
use Rattle.cli.specs.inner.Telling.{IsBundleOf, IsWithGroups, told_in}
use Rattle.cli.proofs.WantedLaws.{now_of}
use Rattle.cli.proofs.adapting.grown_of.Goals as goal

pub returns-in-Ok : goal.returns-in-Ok
returns-in-Ok g c = (
  told_in c.bundle_of-made.result,
  subst (λ (ws : List (List ℕ)). IsBundleOf (g.F.Files.folder c.args.files.now) c.args.native c.args.config.now ws (told_in c.bundle_of-made.result))
      (ap (map now_of) c.deref.ensures.value ∙ c.in-Ok.ensures.others) c.bundle_of-made.ensures,
  subst (λ (gs : List (List ℕ)). IsWithGroups c.args.native gs (told_in c.bundle_of-made.result) (told_in c.with_groups.result))
      (ap (map now_of) c.deref-in-Ok.ensures.value ∙ c.in-Ok.ensures.groups) c.with_groups.ensures,
)

pub returns-in-Err : goal.returns-in-Err
returns-in-Err g c = (Err OutOfMemory, inr (inl tt), inr (inl refl))
