use Rattle.std.proofs.Common.{map, subst}
use Rattle.cli.specs.Dispatch.{HaveBytes}
use Rattle.cli.proofs.DispatchLaws.{now_of}
use Rattle.cli.proofs.widening.widened_by.Goals as goal

pub returns-in-Ok-both_of : goal.returns-in-Ok-both_of
returns-in-Ok-both_of g c =
    let bundle = c.in-Ok.ensures.ok in
    let learned = c.in-Ok-learned_of.ensures in (
      bundle.file,
      learned.0,
      bundle.is,
      subst (λ d. HaveBytes d (map now_of c.args.wish.logs.items) learned.0) c.in-Ok.ensures.same learned.1,
      c.in-Ok-both_of.ensures bundle.file learned.0 c.args.wish.runtime c.args.wish.otherwise bundle.taken learned.2,
    )
