use Rattle.std.proofs.Common.{◌∙◌, subst, sym}
use Rattle.std.proofs.lemmas.Option.{none-some}
use Rattle.bpf_insn.specs.Bytes.{insns_of}
use Rattle.kernel_check.specs.Accepted.{IsAccepted, IsRefusal}
use Rattle.kernel_check.proofs.RefusalLaws.{one}
use Rattle.maker.specs.Certified.{AreJudged}
use Rattle.maker.proofs.EvidenceLaws.{kernel_open, view_open}
use Rattle.maker.proofs.certifying.judge_filter.Goals as goal

pub returns-in-Err-clause-found : goal.returns-in-Err-clause-found
returns-in-Err-clause-found c = λ native bundle means other.
    view_open native bundle c.args.filter.now c.args.profile.now c.in-Err.fault means c.in-Err.ensures.fault

pub returns-in-Err-accept-clause-found : goal.returns-in-Err-accept-clause-found
returns-in-Err-accept-clause-found c = λ native bundle means other.
    kernel_open native bundle c.args.filter.now c.args.profile.now c.in-Err-accept.refused means c.in-Ok.ensures.fault
    (subst (λ p. IsRefusal p c.in-Err-accept.refused) c.in-Ok.ensures.read c.in-Err-accept.ensures.refused)

pub returns-in-Err-clause-own : goal.returns-in-Err-clause-own
returns-in-Err-clause-own c = λ native bundle own. absurd (none-some c.in-Err.fault (sym own.program ∙ c.in-Err.ensures.fault))

pub returns-in-Err-accept-clause-own : goal.returns-in-Err-accept-clause-own
returns-in-Err-accept-clause-own c = λ native bundle own.
    let refused = subst (λ p. IsRefusal p c.in-Err-accept.refused) c.in-Ok.ensures.read c.in-Err-accept.ensures.refused in
    absurd (one.none (insns_of c.args.filter.now) c.in-Err-accept.refused own.shape.accepted refused)

pub returns-in-Ok-accept-clause-found : goal.returns-in-Ok-accept-clause-found
returns-in-Ok-accept-clause-found c = λ native bundle means.
    let both : AreJudged native bundle c.args.filter.now c.args.profile.now = record {
      means = means;
      program = c.in-Ok.ensures.fault;
      accepted = subst IsAccepted c.in-Ok.ensures.read c.in-Ok-accept.ensures.accepted;
    } in c.judged.ensures.found native bundle c.args.filter.now both (c.in-Ok-accept.ensures.same ∙ c.in-Ok.ensures.read)

pub returns-in-Ok-accept-clause-own : goal.returns-in-Ok-accept-clause-own
returns-in-Ok-accept-clause-own c = λ native bundle own.
    c.judged.ensures.own native bundle c.args.filter.now own (c.in-Ok-accept.ensures.same ∙ c.in-Ok.ensures.read)
