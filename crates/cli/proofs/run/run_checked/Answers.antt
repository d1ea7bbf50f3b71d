use Rattle.std.proofs.Common.{◌∙◌, ap, refl}
use Rattle.std.specs.Prelude.{Ok, Err, true}
use Rattle.std.proofs.lemmas.Result.{err_from_is_err_and}
use Rattle.cli.proofs.RunLaws.{ran}
use Rattle.cli.proofs.run.run_checked.Goals as goal

pub returns-in_err-run_script : goal.returns-in_err-run_script
returns-in_err-run_script g c = λ texts each.
    let told = err_from_is_err_and c.from_residual.result c.from_residual.ensures.1 in
    let done = c.in_err-run_script.ensures in
    ran g.I.Source.left g.I.Source.failures g.O.Sink.held g.O.Sink.failures c.args.input.now c.run_script.new.source c.args.out.now
    c.run_script.new.sink
    c.args.native texts (record { native = c.args.native; list = c.args.list }) (record { native_is = refl; each = each })
    (Err c.in_err-run_script.field-0.0) done.ok done.read done.write done.memory done.failed_read done.failed_write c.from_residual.result
    (told.1 ∙ ap Err told.2)

pub returns : goal.returns
returns g c = λ texts each.
    let done = c.in_ok-run_script.ensures in
    ran g.I.Source.left g.I.Source.failures g.O.Sink.held g.O.Sink.failures c.args.input.now c.run_script.new.source c.args.out.now
    c.run_script.new.sink
    c.args.native texts (record { native = c.args.native; list = c.args.list }) (record { native_is = refl; each = each })
    (Ok c.in_ok-run_script.field-0) done.ok done.read done.write done.memory done.failed_read done.failed_write (Ok true) refl
