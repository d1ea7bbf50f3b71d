use Rattle.std.proofs.Common.{List, subst, ℕ, ◌∙◌}
use Rattle.machines.specs.declared.arch.Arch.{Arch}
use Rattle.maker.specs.Certified.{IsJudgement}
use Rattle.recover.proofs.recovered.recover_by.Goals as goal

pub returns-clause-recovered : goal.returns-clause-recovered
returns-clause-recovered c =
    let judged = c.judge_bundle-judged.result in
    let filter = c.args.filter.now in
    c.handed_out_if_judged.ensures.recovered c.args.native filter
    (subst (λ (bytes : List ℕ). IsJudgement c.args.native bytes filter judged)
    (c.new-document.ensures.bytes ∙ c.in-Ok-from_slice.ensures.items ∙ c.as_bytes.ensures.value)
    (subst (λ (n : Arch). IsJudgement n c.new-document.result.bytes filter judged) c.new-document.ensures.native
    c.judge_bundle-judged.ensures.found))

pub returns-clause-reason : goal.returns-clause-reason
returns-clause-reason c =
    let judged = c.judge_bundle-judged.result in
    let filter = c.args.filter.now in
    c.handed_out_if_judged.ensures.reason c.args.native filter
    (subst (λ (bytes : List ℕ). IsJudgement c.args.native bytes filter judged)
    (c.new-document.ensures.bytes ∙ c.in-Ok-from_slice.ensures.items ∙ c.as_bytes.ensures.value)
    (subst (λ (n : Arch). IsJudgement n c.new-document.result.bytes filter judged) c.new-document.ensures.native
    c.judge_bundle-judged.ensures.found))

pub returns-clause-draft : goal.returns-clause-draft
returns-clause-draft c =
    let judged = c.judge_bundle-judged.result in
    let filter = c.args.filter.now in
    c.handed_out_if_judged.ensures.draft c.args.native filter
    (subst (λ (bytes : List ℕ). IsJudgement c.args.native bytes filter judged)
    (c.new-document.ensures.bytes ∙ c.in-Ok-from_slice.ensures.items ∙ c.as_bytes.ensures.value)
    (subst (λ (n : Arch). IsJudgement n c.new-document.result.bytes filter judged) c.new-document.ensures.native
    c.judge_bundle-judged.ensures.found))
