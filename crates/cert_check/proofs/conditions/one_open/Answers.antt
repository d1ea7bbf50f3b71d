use Rattle.std.proofs.Common.{arith}
use Rattle.cert_check.specs.inner.Claimed.{mets_of}
use Rattle.cert_check.specs.inner.Judged.{IsYesOrMet}
use Rattle.cert_check.proofs.RulesLaws.{each_at}
use Rattle.cert_check.proofs.conditions.one_open.Goals as goal

pub returns : goal.returns
returns g c =
    let known = g.K.Knowledge.known c.args.known.now in
    let met = mets_of c.args.mets.now.node in
    λ own cond stands. each_at (λ k x. IsYesOrMet c.args.narrow met known c.args.place k x) c.args.conds.now c.loop-own.own own cond
    (omega (arith, c.loop-own-test.false)) stands c.loop-own.invariant
