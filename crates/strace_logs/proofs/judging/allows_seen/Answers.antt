use Rattle.std.proofs.Common.{List, subst}
use Rattle.std.specs.List.{All}
use Rattle.std.proofs.lemmas.List.{take_all}
use Rattle.std.proofs.lemmas.List.Elements.{All-more}
use Rattle.strace_logs.specs.declared.calls.Seen.{Seen}
use Rattle.strace_logs.specs.Taken.{AllowsEach}
use Rattle.strace_logs.proofs.judging.allows_seen.Goals as goal

pub loop-seen-preserved : goal.loop-seen-preserved
loop-seen-preserved c =
    All-more (AllowsEach c.args.profile.now) c.args.calls.now c.loop-seen.seen-index _ c.loop-seen-test.true c.loop-seen.invariant
    (c.allows_each.ensures c.if-not-allows_each.false)

pub returns : goal.returns
returns c = λ it_does.
    subst (λ (calls : List Seen). All (AllowsEach c.args.profile.now) calls)
    (take_all c.loop-seen.seen-index c.args.calls.now c.loop-seen-test.false) c.loop-seen.invariant
