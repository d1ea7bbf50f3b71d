use Rattle.std.proofs.Common.{ℕ, List, subst, ◌∙◌}
use Rattle.std.specs.String.{string_bytes}
use Rattle.std.proofs.lemmas.Result.{err_from_is_err_and}
use Rattle.machines.specs.declared.arch.Arch.{Arch}
use Rattle.aside.specs.Judged.{IsJudged}
use Rattle.aside.proofs.RecoveredLaws.{recovered_by}
use Rattle.aside.proofs.recovered.recovering.recover_but.Goals as goal

pub returns-clause-recovered : goal.returns-clause-recovered
returns-clause-recovered c =
    let but = c.in-Ok-judge_but.but in
    let filter = c.args.filter.now in
    let rest = c.args.behind.now.rest.now in
    let answered = c.args.behind.now.answered.items in
    recovered_by c.args.native (string_bytes c.in_ok-bundle.bundle) filter rest answered c.requires c.args.leave
    (record { program = c.in_ok-bundle.ensures.program; accepted = c.in_ok-bundle.ensures.accepted })
    but.aside.items but.judged.whole but.judged.evidence c.in_ok-be_right.ensures.right
    (subst (λ (b : List ℕ). IsJudged c.args.native b filter rest answered c.args.leave but.aside.items but.judged.whole but.judged.evidence)
    (c.new-document.ensures.bytes ∙ c.in-Ok.ensures.items ∙ c.as_bytes.ensures.value)
    (subst (λ (n : Arch). IsJudged n c.new-document.result.bytes filter rest answered c.args.leave but.aside.items but.judged.whole but.judged.evidence)
    c.new-document.ensures.native c.in-Ok-judge_but.ensures))

pub returns-in_err-be_right-clause-reason : goal.returns-in_err-be_right-clause-reason
returns-in_err-be_right-clause-reason c =
    let p = err_from_is_err_and c.from_residual-in_err-be_right.result c.from_residual-in_err-be_right.ensures.1 in
    rw (p.1, p.2) (c.in_err-be_right.ensures.reason c.args.native c.args.behind.now.rest.now)
