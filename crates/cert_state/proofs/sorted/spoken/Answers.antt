use Rattle.std.proofs.Common.{ap, ◌∙◌}
use Rattle.cert_state.specs.inner.Sorted.{of_word}
use Rattle.cert_state.proofs.SortedLaws.{unspoken}
use Rattle.cert_state.proofs.sorted.spoken.Goals as goal

pub loop-literal-preserved : goal.loop-literal-preserved
loop-literal-preserved g c = λ w small none.
    let l = c.in-Some.literal in
    let one = unspoken l (g.S.State.rest c.args.state.now c.in-Some.next) c.word.result w c.loop-literal.seen c.word.ensures small none in
    c.loop-literal.invariant w small one.0 ∙ ap (of_word w) c.in-Some.ensures.more ∙ one.1

pub returns : goal.returns
returns g c = λ w small none. c.loop-literal.invariant w small none ∙ ap (of_word w) c.in_default.ensures.more
