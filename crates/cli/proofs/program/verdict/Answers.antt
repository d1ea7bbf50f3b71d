use Rattle.std.proofs.Common.{◌∙◌, ap, refl, subst, sym}
use Rattle.std.specs.Prelude.{Err, Ok}
use Rattle.std.proofs.lemmas.Result.{err_from_is_err_and}
use Rattle.cli.specs.Files.{HasEnough}
use Rattle.cli.proofs.DispatchLaws.{verdict_done, verdict_first, verdict_second}
use Rattle.cli.proofs.program.verdict.Goals as goal

pub returns-in_err-program : goal.returns-in_err-program
returns-in_err-program g c =
    let told = err_from_is_err_and c.from_residual.result c.from_residual.ensures.1 in
    verdict_first g.O.Sink.held g.O.Sink.failures (g.F.Files.folder c.args.files.now) c.args.out.now c.args.filter.now c.args.rec.now
    c.in_err-program.field-0.0 c.from_residual.result c.in_err-program.ensures.err (told.1 ∙ ap Err told.2)

pub returns-in_err-call : goal.returns-in_err-call
returns-in_err-call g c =
    let told = err_from_is_err_and c.from_residual-in_err-call.result c.from_residual-in_err-call.ensures.1 in
    verdict_second g.O.Sink.held g.O.Sink.failures (g.F.Files.folder c.args.files.now) c.args.out.now c.args.filter.now c.args.rec.now
    c.in_ok-program.program.items c.in_ok-program.ensures.ok (g.F.Files.folder c.read_little_filter.new.files) c.in_ok-program.ensures.same
    c.in_err-call.field-0.0 c.from_residual-in_err-call.result c.in_err-call.ensures.err (told.1 ∙ ap Err told.2)

pub returns-in_err-verdict_line : goal.returns-in_err-verdict_line
returns-in_err-verdict_line g c =
    let told = err_from_is_err_and c.from_residual-in_err-verdict_line.result c.from_residual-in_err-verdict_line.ensures.1 in
    verdict_done g.O.Sink.held g.O.Sink.failures (g.F.Files.folder c.args.files.now) c.args.out.now c.args.filter.now c.args.rec.now
    c.deref.result.now
    (subst (λ b. HasEnough 32768 (g.F.Files.folder c.args.files.now) c.args.filter.now b) (sym c.deref.ensures.value) c.in_ok-program.ensures.ok)
    (g.F.Files.folder c.read_little_filter.new.files) c.in_ok-program.ensures.same c.verdict_line.new.sink c.deref-2.result.now
    (Err c.in_err-verdict_line.field-0.0) c.from_residual-in_err-verdict_line.result
    (subst (λ b. HasEnough 64 (g.F.Files.folder c.read_little_filter.new.files) c.args.rec.now b) (sym c.deref-2.ensures.value) c.in_ok-call.ensures.ok)
    c.in_err-verdict_line.ensures (told.1 ∙ ap Err told.2)

pub returns : goal.returns
returns g c =
    verdict_done g.O.Sink.held g.O.Sink.failures (g.F.Files.folder c.args.files.now) c.args.out.now c.args.filter.now c.args.rec.now
    c.deref.result.now
    (subst (λ b. HasEnough 32768 (g.F.Files.folder c.args.files.now) c.args.filter.now b) (sym c.deref.ensures.value) c.in_ok-program.ensures.ok)
    (g.F.Files.folder c.read_little_filter.new.files) c.in_ok-program.ensures.same c.verdict_line.new.sink c.deref-2.result.now
    (Ok c.in_ok-verdict_line.field-0) (Ok c.in_ok-verdict_line.field-0)
    (subst (λ b. HasEnough 64 (g.F.Files.folder c.read_little_filter.new.files) c.args.rec.now b) (sym c.deref-2.ensures.value) c.in_ok-call.ensures.ok)
    c.in_ok-verdict_line.ensures refl
