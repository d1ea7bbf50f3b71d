use Rattle.std.proofs.Common.{subst, ◌∙◌}
use Rattle.bpf_insn.specs.Bytes.{insns_of}
use Rattle.kernel_check.specs.Accepted.{IsRefusal}
use Rattle.kernel_check.proofs.RefusalLaws.{one}
use Rattle.maker.proofs.PlainLaws.{sizes, told_certify, unbroken}
use Rattle.maker.proofs.own.followed.Goals as goal

-- the kernel accepts what was made
pub unreachable-requires-in_default-accept : goal.unreachable-requires-in_default-accept
unreachable-requires-in_default-accept c =
    let same = c.in-Ok.ensures.read in
    one.none (insns_of c.args.filter.now) c.in_default-accept.field-0 c.requires.right.accepted
    (subst (λ p. IsRefusal p c.in_default-accept.field-0) same c.in_default-accept.ensures.refused)

pub returns-in_err-certify_accepted-clause-err : goal.returns-in_err-certify_accepted-clause-err
returns-in_err-certify_accepted-clause-err c = λ native bundle means not_plain.
    let same = c.in-Ok-accept.ensures.same ∙ c.in-Ok.ensures.read in
    told_certify c.args.profile.now c.from_residual.result c.in_err-certify_accepted.field-0.0 c.from_residual.ensures.1
    (λ plain. absurd (not_plain plain))
    (sizes c.args.profile.now _ c.args.filter.now same (λ plain. absurd (not_plain plain)) c.in_err-certify_accepted.field-0.0
    c.requires.right c.requires.steady c.in_err-certify_accepted.ensures.sure)
    native bundle means

pub returns-clause-unbroken : goal.returns-clause-unbroken
returns-clause-unbroken c =
    let same = c.in-Ok-accept.ensures.same ∙ c.in-Ok.ensures.read in
    unbroken c.args.profile.now _ c.args.filter.now c.in_ok-certify_accepted.field-0.items same c.requires.program
    c.requires.right.accepted c.in_ok-certify_accepted.ensures.valid
