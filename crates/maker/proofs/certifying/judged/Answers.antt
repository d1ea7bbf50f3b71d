use Rattle.std.proofs.Common.{List, sym, subst}
use Rattle.bpf_insn.specs.declared.instruction.Insn.{Insn}
use Rattle.kernel_check.specs.Lent.{accepted_insns}
use Rattle.rule_compile.specs.Shape.{IsCallFilter}
use Rattle.rule_compile.specs.Steady.{IsSteady, Nothing}
use Rattle.maker.proofs.EvidenceLaws.{certify_open, evidence_for, told_memory}
use Rattle.maker.proofs.certifying.judged.Goals as goal

pub returns-in-Ok-clause-found : goal.returns-in-Ok-clause-found
returns-in-Ok-clause-found c = λ native bundle filter judged same.
    evidence_for native bundle filter c.args.profile.now (accepted_insns c.args.program.now) c.in-Ok.evidence judged
    c.rules.ensures.is_profile.clear same c.in-Ok.ensures.evidence

pub returns-in-Err-clause-found : goal.returns-in-Err-clause-found
returns-in-Err-clause-found c = λ native bundle filter judged same.
    certify_open native bundle filter c.args.profile.now c.in-Err.error c.from.result judged c.from.ensures
    (λ compares. c.in-Err.ensures.sure (subst (λ (p : List Insn). IsSteady p 0 Nothing) (sym same) compares))

pub returns-in-Ok-clause-own : goal.returns-in-Ok-clause-own
returns-in-Ok-clause-own c = λ native bundle filter own same.
    c.in-Ok.ensures.own own.plain (subst (λ (p : List Insn). IsCallFilter c.args.profile.now p) (sym same) own.shape)

pub returns-in-Err-clause-own : goal.returns-in-Err-clause-own
returns-in-Err-clause-own c = λ native bundle filter own same.
    told_memory c.in-Err.error c.from.result c.from.ensures
    (c.in-Err.ensures.never own.plain (subst (λ (p : List Insn). IsCallFilter c.args.profile.now p) (sym same) own.shape))
