use Rattle.std.proofs.Common.{ℕ, List, subst, sym}
use Rattle.byte_order.specs.Turned.{read_as}
use Rattle.compare.specs.FiltersTold.{IsTold}
use Rattle.cli.specs.Files.{HasBytes}
use Rattle.cli.proofs.DispatchLaws.{told_both}
use Rattle.cli.proofs.text_commands.filters_compared.Goals as goal

pub returns-in-Ok : goal.returns-in-Ok
returns-in-Ok g c =
    told_both (g.F.Files.folder c.args.files.now) (g.F.Files.folder c.read.new.files) c.in-Ok.ensures.same c.args.old.now c.args.new.now
    c.deref.result.now (λ old new. IsTold c.args.native (read_as c.args.native old) (read_as c.args.native new))
    (subst (λ (b : List ℕ). HasBytes (g.F.Files.folder c.args.files.now) c.args.old.now b) (sym c.deref.ensures.value) c.in-Ok.ensures.ok)
    c.filters_compared_with.result c.filters_compared_with.ensures
