use Rattle.cert_state.proofs.WindowLaws.{not_seen, seen_one}
use Rattle.cert_state.proofs.points.excluded_near.Goals as goal

pub loop-literal-preserved-in-Some-near : goal.loop-literal-preserved-in-Some-near
loop-literal-preserved-in-Some-near g c = λ k small.
    let so = c.loop-literal.invariant k small in
    let one =
    seen_one c.in-Some.literal _ _ c.in-Some.ensures.more c.args.word c.args.up c.args.from k c.in-Some-near.k c.loop-literal.seen
    c.in-Some-near.ensures.0 c.in-Some-near.ensures.1
    in
    (λ h. one.0 (so.0 h), λ h. so.1 (one.1 h))

pub loop-literal-preserved : goal.loop-literal-preserved
loop-literal-preserved g c = λ k small.
    let so = c.loop-literal.invariant k small in
    let none =
    not_seen c.in-Some.literal _ _ c.in-Some.ensures.more c.args.word c.args.up c.args.from k c.loop-literal.seen
    (c.in_default-near.ensures k small)
    in
    (λ h. none.0 (so.0 h), λ h. so.1 (none.1 h))
