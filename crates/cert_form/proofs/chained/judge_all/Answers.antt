use Rattle.std.proofs.Common.{◌+◌, ◌*◌, arith}
use Rattle.std.proofs.lemmas.Result.{err_from_is_err_and}
use Rattle.cert_form.specs.Reading.{chain_count}
use Rattle.cert_form.proofs.PlaceLaws.{early, is_faulty}
use Rattle.cert_form.proofs.chained.judge_all.Goals as goal

pub returns-then-bytes-lt16-clause-fault : goal.returns-then-bytes-lt16-clause-fault
returns-then-bytes-lt16-clause-fault c = early c.args.bytes.now c.requires.form c.requires.some (omega (arith, c.if-bytes-lt16.true))

pub returns-in_err-judge_entries-clause-fault : goal.returns-in_err-judge_entries-clause-fault
returns-in_err-judge_entries-clause-fault c =
    let bytes = c.args.bytes.now in
    let p = err_from_is_err_and c.from_residual.result c.from_residual.ensures.1 in
    rw (p.1, p.2) (is_faulty c.in_err-judge_entries.field-0.0 bytes (16 + 14 * chain_count bytes)
    (λ short. early bytes c.requires.form c.requires.some (omega (arith, short))) c.in_err-judge_entries.ensures.fault)

pub returns-then-entries-read_long-clause-fault : goal.returns-then-entries-read_long-clause-fault
returns-then-entries-read_long-clause-fault c =
    early c.args.bytes.now c.requires.form c.requires.some (omega
    (arith, c.if-entries-read_long.true, c.read_long-entries.ensures, c.read_long.ensures))
