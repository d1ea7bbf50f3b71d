use Rattle.std.proofs.Common.{◌∙◌, ap}
use Rattle.std.specs.Prelude.{Err, string_bytes}
use Rattle.std.proofs.lemmas.Result.{err_from_is_err_and}
use Rattle.call_record.specs.Record.{words}
use Rattle.maker.proofs.EvidenceLaws.{line_failed, made_first}
use Rattle.maker.proofs.certifying.tell.Goals as goal

pub returns-in_err-write_all : goal.returns-in_err-write_all
returns-in_err-write_all g c =
    let told = err_from_is_err_and c.from_residual.result c.from_residual.ensures.1 in
    let written = c.in_err-write_all.ensures in
    line_failed g.S.Sink.held g.S.Sink.failures c.args.sink.now c.write_all.new.sink (words c.args.found.now.call) c.args.found.now.given
    c.args.found.now.said (Unit {0}) (string_bytes c.in-Ok.line) c.in_err-write_all.field-0.0 c.from_residual.result
    c.in-Ok.ensures
    (made_first (Unit {0}) g.S.Sink.held g.S.Sink.failures c.args.sink.now c.write_all.new.sink c.as_bytes.result.now (string_bytes c.in-Ok.line)
    c.in_err-write_all.field-0.0 c.as_bytes.ensures.value written)
    (told.1 ∙ ap Err told.2)
