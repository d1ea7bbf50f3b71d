use Rattle.std.proofs.Common.{◌≡◌, ◌++◌, [], List, ap, subst, ◌∙◌}
use Rattle.compare.specs.declared.behind_runc.stub.calls.Calls.{Calls}
use Rattle.compare.specs.Spared.{Spares}
use Rattle.aside.specs.Judged.{IsJudgedBut}
use Rattle.aside.proofs.AsideLaws.{joined_judged}
use Rattle.aside.proofs.judged.judge_beside.Goals as goal

pub returns : goal.returns
returns c = λ native bundle means taken.
    let filter = c.args.filter.now in
    let answered : List Calls = c.args.behind.now.answered.items in
    let aside : List Calls = c.args.aside.now in
    let all : c.deref-3.result.now ≡ answered ++ aside =
    c.deref-3.ensures.value ∙ (c.in_ok-all.ensures ∙ ap (λ (a : List Calls). a ++ aside) c.deref-2.ensures.value) in
    let spares : Spares c.args.profile.now answered =
    subst (λ (a : List Calls). Spares c.args.profile.now a) c.deref.ensures.value (c.spares.ensures.0 c.if-not-spares.false) in
    joined_judged native bundle filter c.args.behind.now.rest.now answered aside c.requires c.args.profile.now means spares
    c.judge_aside-2.result
    (subst (λ (a : List Calls). IsJudgedBut native bundle filter [] a c.judge_aside-2.result) all
    (c.judge_aside-2.ensures native bundle means taken))
