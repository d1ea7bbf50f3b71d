use Rattle.std.proofs.Common.{ap, subst, ◌∙◌}
use Rattle.std.specs.Prelude.{Err}
use Rattle.bpf_insn.specs.Bytes.{insns_of}
use Rattle.kernel_check.specs.Accepted.{IsRefusal}
use Rattle.kernel_check.proofs.RefusalLaws.{one}
use Rattle.rule_compile.specs.declared.fault.CompileError.TheVariants as compiler
use Rattle.certify.specs.declared.error.CertifyError.TheVariants as maker
use Rattle.maker.specs.declared.make_error.MakeError.TheVariants.{Compile, Certify}
use Rattle.maker.proofs.PlainLaws.{certifies, seen, sizes, told_certify, told_compile, told_memory, unbroken}
use Rattle.maker.proofs.own.proposed.Goals as goal

pub returns-in_err-made-clause-never : goal.returns-in_err-made-clause-never
returns-in_err-made-clause-never c = λ is.
    told_memory Compile compiler.OutOfMemory c.in_err-made.field-0.0 c.from_residual.result c.from_residual.ensures.1
    (c.in_err-made.ensures.never is)

pub returns-in_err-made-clause-err : goal.returns-in_err-made-clause-err
returns-in_err-made-clause-err c =
    told_compile c.args.profile.now c.from_residual.result c.in_err-made.field-0.0 c.from_residual.ensures.1 c.in_err-made.ensures.never
    (λ same. c.in_err-made.ensures.planned (ap Err same))

-- the kernel accepts what the compiler gives
pub unreachable-requires-in_default-accept : goal.unreachable-requires-in_default-accept
unreachable-requires-in_default-accept c =
    let same = c.in-Ok.ensures.read ∙ ap insns_of c.deref.ensures.value in
    one.none (insns_of c.in_ok-made.made.bytes.items) c.in_default-accept.field-0 c.in_ok-made.ensures.made.right.accepted
    (subst (λ p. IsRefusal p c.in_default-accept.field-0) same c.in_default-accept.ensures.refused)

pub returns-in_err-certificate-clause-never : goal.returns-in_err-certificate-clause-never
returns-in_err-certificate-clause-never c = λ is.
    let same = c.in-Ok-accept.ensures.same ∙ c.in-Ok.ensures.read ∙ ap insns_of c.deref.ensures.value in
    told_memory Certify maker.OutOfMemory c.in_err-certificate.field-0.0 c.from_residual-in_err-certificate.result
    c.from_residual-in_err-certificate.ensures.1
    (certifies c.args.profile.now _ c.in_ok-made.made.bytes.items same c.in_ok-made.ensures.shape c.in_err-certificate.field-0.0
    c.in_err-certificate.ensures.never is)

pub returns-in_err-certificate-clause-err : goal.returns-in_err-certificate-clause-err
returns-in_err-certificate-clause-err c =
    let same = c.in-Ok-accept.ensures.same ∙ c.in-Ok.ensures.read ∙ ap insns_of c.deref.ensures.value in
    told_certify c.args.profile.now c.from_residual-in_err-certificate.result c.in_err-certificate.field-0.0
    c.from_residual-in_err-certificate.ensures.1
    (certifies c.args.profile.now _ c.in_ok-made.made.bytes.items same c.in_ok-made.ensures.shape c.in_err-certificate.field-0.0
    c.in_err-certificate.ensures.never)
    (sizes c.args.profile.now _ c.in_ok-made.made.bytes.items same c.in_ok-made.ensures.shape c.in_err-certificate.field-0.0
    c.in_ok-made.ensures.made.right c.in_ok-made.ensures.made.steady c.in_err-certificate.ensures.sure)

pub returns-clause-own : goal.returns-clause-own
returns-clause-own c = λ is.
    let same = c.in-Ok-accept.ensures.same ∙ c.in-Ok.ensures.read ∙ ap insns_of c.deref.ensures.value in
    unbroken c.args.profile.now _ c.in_ok-made.made.bytes.items c.in_ok-certificate.certificate.items same c.in_ok-made.ensures.made.program
    c.in_ok-made.ensures.made.right.accepted
    (c.in_ok-certificate.ensures.own is (seen c.args.profile.now _ c.in_ok-made.made.bytes.items same c.in_ok-made.ensures.shape is))
