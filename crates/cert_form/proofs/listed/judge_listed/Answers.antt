use Rattle.std.proofs.Common.{◌+◌, arith}
use Rattle.std.proofs.lemmas.Result.{err_from_is_err_and}
use Rattle.cert_form.proofs.PlaceLaws.{ends_after, listed_weaker}
use Rattle.cert_form.proofs.listed.judge_listed.Goals as goal

pub returns-in_err-judge_top-clause-fault : goal.returns-in_err-judge_top-clause-fault
returns-in_err-judge_top-clause-fault c =
    let p = err_from_is_err_and c.from_residual.result c.from_residual.ensures.1 in
    rw (p.1, p.2) (listed_weaker c.in_err-judge_top.field-0.0 c.args.bytes.now c.args.at (c.args.at + 5) _
    (omega (arith, ends_after c.args.bytes.now c.args.at)) c.in_err-judge_top.ensures.fault)
