use Rattle.std.proofs.Common.{arith}
use Rattle.cert_check.proofs.JudgedLaws.{wide_ends}
use Rattle.cert_check.proofs.conditions.ends_above.Goals as goal

pub returns : goal.returns
returns g c =
    let known = g.K.Knowledge.known c.args.known.now in
    wide_ends c.args.narrow known c.args.index _ c.range.result c.if-narrow.false (omega (arith, c.low_word.ensures)) c.range.ensures
