use Rattle.std.proofs.Common.{◌+◌, ◌*◌, arith}
use Rattle.std.proofs.lemmas.Result.{err_from_is_err_and}
use Rattle.cert_form.specs.Faults.{IsBadListed}
use Rattle.cert_form.proofs.StandLaws.{weaker}
use Rattle.cert_form.proofs.listed.judge_own.Goals as goal

pub returns-in_err-judge_literal-clause-fault : goal.returns-in_err-judge_literal-clause-fault
returns-in_err-judge_literal-clause-fault c =
    let p = err_from_is_err_and c.from_residual.result c.from_residual.ensures.1 in
    rw (p.1, p.2) (weaker c.in_err-judge_literal.field-0.0 c.args.bytes.now (c.args.at + 17 + 10 * c.loop-k.k + 10) _
    (omega (arith, c.loop-k-test.true, c.read_short-count.ensures))
    (λ bad. IsBadListed.own c.loop-k.k (omega (arith, c.loop-k-test.true, c.read_short-count.ensures)) bad)
    c.in_err-judge_literal.ensures.fault)
