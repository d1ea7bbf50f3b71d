use Rattle.std.proofs.Common.{List, ℕ, subst}
use Rattle.machines.specs.declared.arch.Arch.{Arch}
use Rattle.bpf_insn.specs.Bytes.{insns_of}
use Rattle.maker.specs.Certified.{IsJudgement}
use Rattle.recover_others.specs.Guarded.{IsGuarded}
use Rattle.recover_others.specs.RecoveredOthers.{IsCertified, MeansAllowing}
use Rattle.recover_others.proofs.AllowingLaws.{if_ok, means_allowing}
use Rattle.recover_others.proofs.judged.judge_beside.Goals as goal

pub returns : goal.returns
returns c = λ native bundle means.
    let filter = c.args.filter.now in
    let made : List ℕ = c.in-Ok.made.items in
    let judged = c.judge_filter-judged.result in
    let guarded : IsGuarded c.args.profile.now.machines (insns_of filter) (insns_of made) =
    subst (λ (ms : List Arch). IsGuarded ms (insns_of filter) (insns_of made)) c.machines.ensures.machines c.in-Ok.ensures.guarded in
    let is : IsJudgement native bundle made judged =
    subst (λ (bytes : List ℕ). IsJudgement native bundle bytes judged) c.deref.ensures.value
    (c.judge_filter-judged.ensures.found native bundle means) in
    if_ok c.be_right.result (λ _. IsCertified judged) (λ _. MeansAllowing native bundle filter)
    (λ _ certified. means_allowing native bundle filter made c.args.profile.now means c.in-Ok.ensures.program c.in-Ok.ensures.accepted
    guarded judged certified is) c.be_right.ensures
