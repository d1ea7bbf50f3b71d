use Rattle.std.proofs.Common.{ℕ, List, [], ◌∷◌, subst, sym}
use Rattle.cli.specs.Files.{HasBytes}
use Rattle.cli.proofs.text_commands.filters_compared_with.Goals as goal

pub returns-in-Ok-filters_told : goal.returns-in-Ok-filters_told
returns-in-Ok-filters_told g c = (
  c.deref.result.now ∷ [],
  (subst (λ (b : List ℕ). HasBytes (g.F.Files.folder c.args.files.now) c.args.new.now b) (sym c.deref.ensures.value) c.in-Ok.ensures.ok, tt),
  c.in-Ok-filters_told.ensures,
)
