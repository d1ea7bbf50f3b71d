use Rattle.std.proofs.Common.{ℕ, List, [], ◌∷◌, subst, sym}
use Rattle.cli.specs.Files.{HasBytes}
use Rattle.cli.proofs.text_commands.assembled.Goals as goal

pub returns-in-Ok-assembled : goal.returns-in-Ok-assembled
returns-in-Ok-assembled g c = (
  c.deref.result.now ∷ [],
  (subst (λ (b : List ℕ). HasBytes (g.F.Files.folder c.args.files.now) c.args.listing.now b) (sym c.deref.ensures.value) c.in-Ok.ensures.ok, tt),
  c.in-Ok-assembled.ensures,
)
