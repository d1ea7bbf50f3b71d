use Rattle.std.proofs.Common.{◌∙◌, ap}
use Rattle.std.specs.Prelude.{Err}
use Rattle.std.proofs.lemmas.Result.{err_from_is_err_and}
use Rattle.cli.proofs.DispatchLaws.{export_done, export_first}
use Rattle.cli.proofs.program.export.Goals as goal

pub returns-in_err-document : goal.returns-in_err-document
returns-in_err-document g c =
    let told = err_from_is_err_and c.from_residual.result c.from_residual.ensures.1 in
    export_first g.O.Sink.held g.O.Sink.failures (g.F.Files.folder c.args.files.now) c.args.out.now c.args.native c.args.bundle.now
    c.args.form c.in_err-document.field-0.0 c.from_residual.result c.in_err-document.ensures.err (told.1 ∙ ap Err told.2)

pub returns : goal.returns
returns g c =
    export_done g.O.Sink.held g.O.Sink.failures (g.F.Files.folder c.args.files.now) c.args.out.now c.args.native c.args.bundle.now
    c.args.form c.export_for.new.out c.in_ok-document.document.bytes c.export_for.result
    c.in_ok-document.ensures.ok.has (rw c.in_ok-document.ensures.ok.machine at c.export_for.ensures)
