use Rattle.std.proofs.Common.{◌∙◌, ap, refl}
use Rattle.std.specs.Prelude.{Err}
use Rattle.std.proofs.lemmas.Result.{err_from_is_err_and}
use Rattle.maker.proofs.EvidenceLaws.{made_first, written_failed}
use Rattle.maker.proofs.certifying.write_certificate.Goals as goal

pub returns-in_err-write_all : goal.returns-in_err-write_all
returns-in_err-write_all g c =
    let told = err_from_is_err_and c.from_residual.result c.from_residual.ensures.1 in
    written_failed g.S.Sink.held g.S.Sink.failures c.args.sink.now c.write_all.new.sink (Unit {0}) c.args.certificate.now
    c.in_err-write_all.field-0.0 c.from_residual.result
    (made_first (Unit {0}) g.S.Sink.held g.S.Sink.failures c.args.sink.now c.write_all.new.sink c.args.certificate.now c.args.certificate.now
    c.in_err-write_all.field-0.0 refl c.in_err-write_all.ensures)
    (told.1 ∙ ap Err told.2)
