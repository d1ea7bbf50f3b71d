use Rattle.std.proofs.Common.{◌+◌, ◌*◌, arith}
use Rattle.std.proofs.lemmas.Result.{err_from_is_err_and}
use Rattle.cert_form.specs.Faults.{HasBadPart}
use Rattle.cert_form.proofs.StandLaws.{weaker}
use Rattle.cert_form.proofs.chained.judge_entries.Goals as goal

pub returns-in_err-judge_entry-clause-fault : goal.returns-in_err-judge_entry-clause-fault
returns-in_err-judge_entry-clause-fault c =
    let p = err_from_is_err_and c.from_residual.result c.from_residual.ensures.1 in
    rw (p.1, p.2) (weaker c.in_err-judge_entry.field-0.0 c.args.bytes.now (16 + 14 * c.loop-j.j + 14) _
    (omega (arith, c.loop-j-test.true, c.read_long-count.ensures))
    (λ bad. HasBadPart.entry c.loop-j.j c.requires.there c.requires.form (omega (arith, c.loop-j-test.true, c.read_long-count.ensures)) bad)
    c.in_err-judge_entry.ensures.fault)
