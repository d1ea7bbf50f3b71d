use Rattle.std.proofs.Common.{◌≡◌, ◌≢◌, ◌∙◌, ap, List, subst, sym}
use Rattle.std.specs.Prelude.{IfErr, IfOk}
use Rattle.bpf_insn.specs.declared.instruction.Insn.{Insn}
use Rattle.bpf_insn.specs.Bytes.{insns_of, spelling}
use Rattle.kernel_check.specs.Accepted.{IsRefusal}
use Rattle.kernel_check.specs.Lent.{accepted_insns}
use Rattle.cert_check.specs.declared.fault.CheckError.TheVariants.{OutOfMemory}
use Rattle.cert_check.specs.Certified.{IsFirst}
use Rattle.cert_check.specs.Checked.{program_of}
use Rattle.cert_check.specs.Right.{IsRight}
use Rattle.cert_check.specs.Valid.{IsValidCertificate}
use Rattle.cert_check.proofs.FirstLaws.{first_kernel, first_view}
use Rattle.cert_check.proofs.ValidLaws.{accepted_at_yes, kept_at_yes}
use Rattle.cert_check.proofs.checking.check.Goals as goal

pub returns-in-Err-clause-first : goal.returns-in-Err-clause-first
returns-in-Err-clause-first c = λ _. first_view c.args.profile.now c.args.filter.now c.args.cert.now c.in-Err.e c.in-Err.ensures.fault

pub returns-in-Err-clause-memory : goal.returns-in-Err-clause-memory
returns-in-Err-clause-memory c = λ e. absurd cc

pub returns-in-Err-accept-clause-first : goal.returns-in-Err-accept-clause-first
returns-in-Err-accept-clause-first c =
    λ _.
    first_kernel c.args.profile.now c.args.filter.now c.args.cert.now c.in-Ok.ensures.fault c.in-Err-accept.e
    (subst (λ p. IsRefusal p c.in-Err-accept.e) c.in-Ok.ensures.read c.in-Err-accept.ensures.refused)

pub returns-in-Err-accept-clause-memory : goal.returns-in-Err-accept-clause-memory
returns-in-Err-accept-clause-memory c = λ e. absurd cc

pub returns-in-Ok-accept-clause-filter : goal.returns-in-Ok-accept-clause-filter
returns-in-Ok-accept-clause-filter c =
    let same : accepted_insns c.in-Ok-accept.accepted ≡ insns_of c.args.filter.now = c.in-Ok-accept.ensures.same ∙ c.in-Ok.ensures.read in
    subst (λ (p : List Insn). IfOk c.checked.result (λ checked. program_of checked ≡ p)) same c.checked.ensures.program

pub returns-in-Ok-accept-clause-accepted : goal.returns-in-Ok-accept-clause-accepted
returns-in-Ok-accept-clause-accepted c =
    accepted_at_yes c.args.filter.now (sym c.in-Ok.ensures.read) c.in-Ok-accept.ensures.accepted c.checked.result

pub returns-in-Ok-accept-clause-right : goal.returns-in-Ok-accept-clause-right
returns-in-Ok-accept-clause-right c =
    let same : accepted_insns c.in-Ok-accept.accepted ≡ insns_of c.args.filter.now = c.in-Ok-accept.ensures.same ∙ c.in-Ok.ensures.read in
    subst (λ (p : List Insn). IfOk c.checked.result (λ _. IsRight c.args.profile.now p)) same c.checked.ensures.right

pub returns-in-Ok-accept-clause-kept : goal.returns-in-Ok-accept-clause-kept
returns-in-Ok-accept-clause-kept c =
    kept_at_yes c.args.profile.now c.args.filter.now c.args.cert.now _ (sym c.in-Ok.ensures.read) c.in-Ok.ensures.fault c.in-Ok-accept.ensures.accepted
    c.checked.result
    (subst (λ (p : List Insn). IfOk c.checked.result (λ _. IsValidCertificate c.args.profile.now p c.args.cert.now))
    c.in-Ok-accept.ensures.same c.checked.ensures.valid)

pub returns-in-Ok-accept-clause-first : goal.returns-in-Ok-accept-clause-first
returns-in-Ok-accept-clause-first c =
    let spelled : spelling (accepted_insns c.in-Ok-accept.accepted) ≡ c.args.filter.now =
    ap spelling c.in-Ok-accept.ensures.same ∙ c.in-Ok.ensures.spelled in
    subst (λ filter. IfErr c.checked.result (λ e. e ≢ OutOfMemory → IsFirst c.args.profile.now filter c.args.cert.now e)) spelled
    c.checked.ensures.first
