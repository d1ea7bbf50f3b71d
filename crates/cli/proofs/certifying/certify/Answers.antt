use Rattle.std.proofs.Common.{◌∙◌, ap, refl, subst, sym}
use Rattle.std.specs.Prelude.{Err, Ok}
use Rattle.std.proofs.lemmas.Result.{err_from_is_err_and}
use Rattle.cli.specs.Files.{HasEnoughFilter}
use Rattle.cli.specs.Parts.{read}
use Rattle.cli.proofs.CertifyLaws.{certify_done, certify_first, certify_second, certify_told}
use Rattle.cli.proofs.certifying.certify.Goals as goal

pub returns-in_err-document-clause-answers : goal.returns-in_err-document-clause-answers
returns-in_err-document-clause-answers g c =
    let told = err_from_is_err_and c.from_residual.result c.from_residual.ensures.1 in
    certify_first g.O.Sink.held g.O.Sink.failures (g.F.Files.folder c.args.files.now) c.args.out.now (read c.args.parts)
    c.in_err-document.field-0.0 c.from_residual.result c.in_err-document.ensures.err (told.1 ∙ ap Err told.2)

pub returns-in_err-filter-clause-answers : goal.returns-in_err-filter-clause-answers
returns-in_err-filter-clause-answers g c =
    let told = err_from_is_err_and c.from_residual-in_err-filter.result c.from_residual-in_err-filter.ensures.1 in
    certify_second g.O.Sink.held g.O.Sink.failures (g.F.Files.folder c.args.files.now) c.args.out.now (read c.args.parts)
    c.in_ok-document.document.bytes c.in_ok-document.ensures.ok.has (g.F.Files.folder c.read_document.new.files) c.in_ok-document.ensures.same
    c.in_err-filter.field-0.0 c.from_residual-in_err-filter.result c.in_err-filter.ensures.err (told.1 ∙ ap Err told.2)

pub returns-in_err-judge_as-clause-answers : goal.returns-in_err-judge_as-clause-answers
returns-in_err-judge_as-clause-answers g c =
    let told = err_from_is_err_and c.from_residual-in_err-judge_as.result c.from_residual-in_err-judge_as.ensures.1 in
    certify_done g.O.Sink.held g.O.Sink.failures (g.F.Files.folder c.args.files.now) c.args.out.now (read c.args.parts)
    c.in_ok-document.document.bytes c.in_ok-document.ensures.ok.has
    (g.F.Files.folder c.read_document.new.files) c.in_ok-document.ensures.same c.deref.result.now
    (subst (λ b. HasEnoughFilter c.args.parts.native (g.F.Files.folder c.read_document.new.files) c.args.parts.three.now b) (sym c.deref.ensures.value)
    c.in_ok-filter.ensures.ok)
    c.judge_as.new.out (Err c.in_err-judge_as.field-0.0) c.from_residual-in_err-judge_as.result
    (rw c.in_ok-document.ensures.ok.machine at c.in_err-judge_as.ensures.written) (told.1 ∙ ap Err told.2)

pub returns-clause-answers : goal.returns-clause-answers
returns-clause-answers g c =
    certify_done g.O.Sink.held g.O.Sink.failures (g.F.Files.folder c.args.files.now) c.args.out.now (read c.args.parts)
    c.in_ok-document.document.bytes c.in_ok-document.ensures.ok.has
    (g.F.Files.folder c.read_document.new.files) c.in_ok-document.ensures.same c.deref.result.now
    (subst (λ b. HasEnoughFilter c.args.parts.native (g.F.Files.folder c.read_document.new.files) c.args.parts.three.now b) (sym c.deref.ensures.value)
    c.in_ok-filter.ensures.ok)
    c.judge_as.new.out (Ok c.in_ok-judge_as.field-0) (Ok c.in_ok-judge_as.field-0)
    (rw c.in_ok-document.ensures.ok.machine at c.in_ok-judge_as.ensures.written) refl

pub returns-clause-explained : goal.returns-clause-explained
returns-clause-explained g c =
    certify_told g.O.Sink.held g.O.Sink.failures (g.F.Files.folder c.args.files.now) c.args.out.now (read c.args.parts)
    c.in_ok-document.document.bytes c.in_ok-document.ensures.ok.has
    (g.F.Files.folder c.read_document.new.files) c.in_ok-document.ensures.same c.deref.result.now
    (subst (λ b. HasEnoughFilter c.args.parts.native (g.F.Files.folder c.read_document.new.files) c.args.parts.three.now b) (sym c.deref.ensures.value)
    c.in_ok-filter.ensures.ok)
    c.judge_as.new.out g.E.Sink.held g.E.Sink.failures c.args.err.now c.judge_as.new.err c.in_ok-judge_as.field-0
    (rw c.in_ok-document.ensures.ok.machine at c.in_ok-judge_as.ensures.explained)
