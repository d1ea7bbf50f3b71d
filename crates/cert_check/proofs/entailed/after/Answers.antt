use Rattle.std.proofs.Common.{◌≡◌, rules}
use Rattle.cert_state.proofs.ListLaws.{contains_here, contains_later}
use Rattle.cert_check.proofs.entailed.after.Goals as goal

pub returns-then-eq : goal.returns-then-eq
returns-then-eq g c =
    let same : c.in-Some.literal ≡ c.args.wanted.now = search rules in (
      c.loop.invariant c.args.wanted.now (contains_here c.in-Some.literal _ _ c.in-Some.ensures.more c.args.wanted.now same),
      λ l has. c.loop.invariant l (contains_later c.in-Some.literal _ _ c.in-Some.ensures.more l has),
    )

pub loop-preserved : goal.loop-preserved
loop-preserved g c = λ l has. c.loop.invariant l (contains_later c.in-Some.literal _ _ c.in-Some.ensures.more l has)
