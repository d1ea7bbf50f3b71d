use Rattle.std.proofs.Common.{List, ℕ, map, subst, sym}
use Rattle.cli.specs.Files.{HasBundle}
use Rattle.cli.proofs.DispatchLaws.{now_of}
use Rattle.cli.proofs.LogLaws.{told_behind}
use Rattle.cli.proofs.logs.played_bundle.Goals as goal

pub returns-in-Ok : goal.returns-in-Ok
returns-in-Ok g c =
    told_behind (g.F.Files.folder c.args.files.now) (g.F.Files.folder c.read_bundle.new.files) c.in-Ok.ensures.same c.args.native c.args.tells_unused
    c.args.bundle.now c.deref.result.now (map now_of c.args.names.now)
    (subst (λ (b : List ℕ). HasBundle c.args.native (g.F.Files.folder c.args.files.now) c.args.bundle.now b) (sym c.deref.ensures.value) c.in-Ok.ensures.ok)
    c.played_each.result c.played_each.ensures
