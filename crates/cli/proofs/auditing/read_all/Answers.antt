use Rattle.std.proofs.Common.{ℕ, List, refl, subst, sym}
use Rattle.std.specs.Io.KnownBytes.{Consumes}
use Rattle.std.proofs.KnownBytes.{Consumes-nil}
use Rattle.cli.proofs.auditing.read_all.Goals as goal

pub part-init : goal.part-init
part-init g c =
    let left = g.I.Source.left c.args.input.now in (
      subst (λ (l : List ℕ). Consumes left left l) (sym c.new-text.ensures.items) (Consumes-nil left),
      refl,
    )
