use Rattle.std.proofs.Common.{arith}
use Rattle.cert_state.proofs.PointLaws.{none_free, range_free}
use Rattle.cert_state.proofs.gathered.ends_of.Goals as goal

pub returns-then-free-clause-some : goal.returns-then-free-clause-some
returns-then-free-clause-some g c =
    range_free (g.S.State.known c.args.state.now) c.args.word c.args.summary.now c.requires.summary
    (c.requires.free c.if-free.true)

pub returns-then-free-clause-none : goal.returns-then-free-clause-none
returns-then-free-clause-none g c =
    none_free (g.S.State.known c.args.state.now) c.args.word c.args.summary.now c.requires.summary

pub returns-in-Some-clause-none : goal.returns-in-Some-clause-none
returns-in-Some-clause-none g c = λ above.
    let between = c.in-Some.ensures.between c.in-Some.ends.0 c.in-Some.ensures.least in absurd (omega (arith, above, between))
