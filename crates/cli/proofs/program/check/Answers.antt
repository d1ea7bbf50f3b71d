use Rattle.std.proofs.Common.{◌∙◌, ap, refl, subst, sym}
use Rattle.std.specs.Prelude.{Err, Ok}
use Rattle.std.proofs.lemmas.Result.{err_from_is_err_and}
use Rattle.machines.specs.declared.arch.Arch.{Arch}
use Rattle.maker.specs.Finding.{WritesFinding}
use Rattle.cli.specs.Files.{HasEnough, HasEnoughFilter}
use Rattle.cli.proofs.DispatchLaws.{check_done, check_first, check_second, check_third}
use Rattle.cli.proofs.program.check.Goals as goal

pub returns-in_err-document : goal.returns-in_err-document
returns-in_err-document g c =
    let told = err_from_is_err_and c.from_residual.result c.from_residual.ensures.1 in
    check_first g.O.Sink.held g.O.Sink.failures (g.F.Files.folder c.args.files.now) c.args.out.now c.args.native c.args.bundle.now
    c.args.filter.now c.args.certificate.now c.in_err-document.field-0.0 c.from_residual.result c.in_err-document.ensures.err
    (told.1 ∙ ap Err told.2)

pub returns-in_err-filter : goal.returns-in_err-filter
returns-in_err-filter g c =
    let told = err_from_is_err_and c.from_residual-in_err-filter.result c.from_residual-in_err-filter.ensures.1 in
    check_second g.O.Sink.held g.O.Sink.failures (g.F.Files.folder c.args.files.now) c.args.out.now c.args.native c.args.bundle.now
    c.args.filter.now c.in_ok-document.document.bytes c.in_ok-document.ensures.ok.has (g.F.Files.folder c.read_document.new.files) c.in_ok-document.ensures.same
    c.args.certificate.now c.in_err-filter.field-0.0 c.from_residual-in_err-filter.result c.in_err-filter.ensures.err
    (told.1 ∙ ap Err told.2)

pub returns-in_err-certificate : goal.returns-in_err-certificate
returns-in_err-certificate g c =
    let told = err_from_is_err_and c.from_residual-in_err-certificate.result c.from_residual-in_err-certificate.ensures.1 in
    check_third g.O.Sink.held g.O.Sink.failures (g.F.Files.folder c.args.files.now) c.args.out.now c.args.native c.args.bundle.now
    c.args.filter.now c.in_ok-document.document.bytes c.in_ok-document.ensures.ok.has (g.F.Files.folder c.read_document.new.files) c.in_ok-document.ensures.same
    c.in_ok-filter.filter.items c.in_ok-filter.ensures.ok c.args.certificate.now (g.F.Files.folder c.read_filter.new.files)
    c.in_ok-filter.ensures.same c.in_err-certificate.field-0.0 c.from_residual-in_err-certificate.result
    c.in_err-certificate.ensures.err (told.1 ∙ ap Err told.2)

pub returns-in_err-check_line : goal.returns-in_err-check_line
returns-in_err-check_line g c =
    let told = err_from_is_err_and c.from_residual-in_err-check_line.result c.from_residual-in_err-check_line.ensures.1 in
    check_done g.O.Sink.held g.O.Sink.failures (g.F.Files.folder c.args.files.now) c.args.out.now c.args.native c.args.bundle.now
    c.args.filter.now c.in_ok-document.document.bytes c.in_ok-document.ensures.ok.has
    (g.F.Files.folder c.read_document.new.files) c.in_ok-document.ensures.same c.deref.result.now
    (subst (λ b. HasEnoughFilter c.args.native (g.F.Files.folder c.read_document.new.files) c.args.filter.now b) (sym c.deref.ensures.value)
    c.in_ok-filter.ensures.ok)
    c.args.certificate.now (g.F.Files.folder c.read_filter.new.files) c.in_ok-filter.ensures.same c.check_line.new.sink
    c.deref-2.result.now (Err c.in_err-check_line.field-0.0) c.from_residual-in_err-check_line.result
    (subst (λ b. HasEnough 4194304 (g.F.Files.folder c.read_filter.new.files) c.args.certificate.now b) (sym c.deref-2.ensures.value)
    c.in_ok-certificate.ensures.ok)
    (subst (λ (n : Arch). WritesFinding g.O.Sink.held g.O.Sink.failures c.args.out.now c.check_line.new.sink n c.in_ok-document.document.bytes
    c.deref.result.now c.deref-2.result.now (Err c.in_err-check_line.field-0.0)) c.in_ok-document.ensures.ok.machine c.in_err-check_line.ensures)
    (told.1 ∙ ap Err told.2)

pub returns : goal.returns
returns g c =
    check_done g.O.Sink.held g.O.Sink.failures (g.F.Files.folder c.args.files.now) c.args.out.now c.args.native c.args.bundle.now
    c.args.filter.now c.in_ok-document.document.bytes c.in_ok-document.ensures.ok.has
    (g.F.Files.folder c.read_document.new.files) c.in_ok-document.ensures.same c.deref.result.now
    (subst (λ b. HasEnoughFilter c.args.native (g.F.Files.folder c.read_document.new.files) c.args.filter.now b) (sym c.deref.ensures.value)
    c.in_ok-filter.ensures.ok)
    c.args.certificate.now (g.F.Files.folder c.read_filter.new.files) c.in_ok-filter.ensures.same c.check_line.new.sink
    c.deref-2.result.now (Ok c.in_ok-check_line.field-0) (Ok c.in_ok-check_line.field-0)
    (subst (λ b. HasEnough 4194304 (g.F.Files.folder c.read_filter.new.files) c.args.certificate.now b) (sym c.deref-2.ensures.value)
    c.in_ok-certificate.ensures.ok)
    (subst (λ (n : Arch). WritesFinding g.O.Sink.held g.O.Sink.failures c.args.out.now c.check_line.new.sink n c.in_ok-document.document.bytes
    c.deref.result.now c.deref-2.result.now (Ok c.in_ok-check_line.field-0)) c.in_ok-document.ensures.ok.machine c.in_ok-check_line.ensures) refl
