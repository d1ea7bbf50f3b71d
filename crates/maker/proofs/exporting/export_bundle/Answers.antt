use Rattle.std.proofs.Common.{◌∙◌, ap}
use Rattle.std.specs.Prelude.{Err}
use Rattle.std.proofs.lemmas.Result.{err_from_is_err_and}
use Rattle.maker.proofs.ExportLaws.{filter_failed, filter_written, refused}
use Rattle.maker.proofs.PlainLaws.{filter_is_written}
use Rattle.maker.proofs.exporting.export_bundle.Goals as goal

pub returns : goal.returns
returns g c =
    let exports = refused g.S.Sink.held g.S.Sink.failures c.args.sink.now c.refuse.new.sink
    c.args.document.now.native c.args.document.now.bytes c.args.form
    c.in-Err.make_error c.refuse.result c.in-Err.ensures.err c.refuse.ensures in record {
      exports = exports;
      own = filter_is_written g.S.Sink.held g.S.Sink.failures c.args.sink.now c.refuse.new.sink
          c.args.document.now.native c.args.document.now.bytes c.args.form c.refuse.result exports;
    }

pub returns-in-Ok : goal.returns-in-Ok
returns-in-Ok g c =
    let exports = filter_written g.S.Sink.held g.S.Sink.failures c.args.sink.now c.export_form.new.sink
    c.args.document.now.native c.args.document.now.bytes c.args.form c.in-Ok.checked c.in-Ok.ensures.ok c.in_ok-export_form-in-Ok.ensures in record {
      exports = exports;
      own = filter_is_written g.S.Sink.held g.S.Sink.failures c.args.sink.now c.export_form.new.sink
          c.args.document.now.native c.args.document.now.bytes c.args.form _ exports;
    }

pub returns-in_err-export_form-in-Ok : goal.returns-in_err-export_form-in-Ok
returns-in_err-export_form-in-Ok g c =
    let told = err_from_is_err_and c.from_residual.result c.from_residual.ensures.1 in
    let exports = filter_failed g.S.Sink.held g.S.Sink.failures c.args.sink.now c.export_form.new.sink
    c.args.document.now.native c.args.document.now.bytes c.args.form (Unit {0}) c.in-Ok.checked c.in_err-export_form-in-Ok.field-0.0 c.from_residual.result
    c.in-Ok.ensures.ok c.in_err-export_form-in-Ok.ensures (told.1 ∙ ap Err told.2) in record {
      exports = exports;
      own = filter_is_written g.S.Sink.held g.S.Sink.failures c.args.sink.now c.export_form.new.sink
          c.args.document.now.native c.args.document.now.bytes c.args.form c.from_residual.result exports;
    }
