use Rattle.std.proofs.Common.{◌≡◌, ◌∙◌, Global, List, Vec, ℕ, ap, subst, sym}
use Rattle.std.specs.Prelude.{◌≢◌, Err, IfErr, Result}
use Rattle.std.proofs.lemmas.Result.{err_from_is_err_and}
use Rattle.cert_check.specs.declared.checked.Checked.{Checked}
use Rattle.cert_check.specs.declared.fault.CheckError.TheVariants as error
use Rattle.rule_compile.specs.Shape.{IsPlain}
use Rattle.maker.specs.Exported.{IsMakeError}
use Rattle.maker.specs.declared.proposal.Proposal.{Proposal}
use Rattle.maker.specs.declared.make_error.MakeError.{MakeError}
use Rattle.maker.specs.declared.make_error.MakeError.TheVariants.{Check, OutOfMemory}
use Rattle.maker.proofs.PlainLaws.{only_memory, told_memory, unbroken_lent}
use Rattle.maker.proofs.checked_bundle.from_own.Goals as goal

pub returns-in_err-last-clause-never : goal.returns-in_err-last-clause-never
returns-in_err-last-clause-never c = λ plain.
    let own = c.in_ok-own.own in
    let filter = c.deref.ensures.value ∙ ap (λ (p : Proposal). p.filter.items) c.insert-made.ensures.value in
    let cert = c.deref-2.ensures.value ∙ ap (λ (p : Proposal). p.certificate.items) c.insert-made.ensures.value in
    absurd (c.in_default.not-OutOfMemory (c.in-Err.ensures.own (unbroken_lent c.args.profile.now own.filter.items c.deref.result.now
    own.certificate.items c.deref-2.result.now filter cert (c.in_ok-own.ensures.own plain))))

pub returns-in_err-last-clause-err : goal.returns-in_err-last-clause-err
returns-in_err-last-clause-err c = λ native bundle means.
    let own = c.in_ok-own.own in
    let filter = c.deref.ensures.value ∙ ap (λ (p : Proposal). p.filter.items) c.insert-made.ensures.value in
    let cert = c.deref-2.ensures.value ∙ ap (λ (p : Proposal). p.certificate.items) c.insert-made.ensures.value in
    let not_plain : IsPlain c.args.profile.now → ⊥ = λ plain.
    c.in_default.not-OutOfMemory (c.in-Err.ensures.own (unbroken_lent c.args.profile.now own.filter.items c.deref.result.now
    own.certificate.items c.deref-2.result.now filter cert (c.in_ok-own.ensures.own plain))) in
    let told = err_from_is_err_and c.from_residual-in_err-last.result c.from_residual-in_err-last.ensures.1 in
    subst (λ (r : Result Checked MakeError). IfErr r (λ u. u ≢ OutOfMemory → IsMakeError native bundle u)) (sym (told.1 ∙ ap Err told.2))
    (c.in_err-last.ensures.err native bundle means not_plain)

pub returns-in_err-answer-clause-never : goal.returns-in_err-answer-clause-never
returns-in_err-answer-clause-never c = λ plain.
    let last = c.in_ok-last.last in
    let filter = c.deref-4.ensures.value ∙ sym c.deref-3.ensures.value in
    let cert = c.deref-5.ensures.value ∙ ap (λ (v : Vec ℕ Global). v.items) c.insert-certificate.ensures.value in
    told_memory Check error.OutOfMemory c.in_err-answer.field-0.0 c.from_residual-in_err-answer.result
    c.from_residual-in_err-answer.ensures.1
    (c.in_err-answer.ensures.own (unbroken_lent c.args.profile.now c.deref-3.result.now c.deref-4.result.now last.items
    c.deref-5.result.now filter cert c.in_ok-last.ensures.unbroken))

pub returns-in_err-answer-clause-err : goal.returns-in_err-answer-clause-err
returns-in_err-answer-clause-err c = λ native bundle means.
    let last = c.in_ok-last.last in
    let filter = c.deref-4.ensures.value ∙ sym c.deref-3.ensures.value in
    let cert = c.deref-5.ensures.value ∙ ap (λ (v : Vec ℕ Global). v.items) c.insert-certificate.ensures.value in
    only_memory c.from_residual-in_err-answer.result
    (told_memory Check error.OutOfMemory c.in_err-answer.field-0.0 c.from_residual-in_err-answer.result
    c.from_residual-in_err-answer.ensures.1
    (c.in_err-answer.ensures.own (unbroken_lent c.args.profile.now c.deref-3.result.now c.deref-4.result.now last.items
    c.deref-5.result.now filter cert c.in_ok-last.ensures.unbroken)))
    native bundle

pub returns-clause-ok : goal.returns-clause-ok
returns-clause-ok c = λ native bundle means. c.in_ok-answer.ensures.ok native bundle means
