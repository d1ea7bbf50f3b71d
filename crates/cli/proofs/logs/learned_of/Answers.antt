use Rattle.std.proofs.Common.{ℕ, List, map, subst}
use denote.Ref.{Bor}
use Rattle.cli.specs.inner.Telling.{ShowEach}
use Rattle.cli.proofs.DispatchLaws.{now_of}
use Rattle.cli.proofs.logs.learned_of.Goals as goal

pub returns-in-Ok-learn : goal.returns-in-Ok-learn
returns-in-Ok-learn g c =
    let shown = subst (λ (logs : List (Bor (List ℕ))). ShowEach (g.F.Files.folder c.args.files.now) c.args.native (map now_of logs) c.in-Ok.shown)
    c.deref-2.ensures.value c.in-Ok.ensures.ok in
    (shown.0, shown.1, c.in-Ok-learn.ensures shown.0 shown.2)
