use Rattle.std.proofs.Common.{string_bytes, subst}
use Rattle.maker.specs.Certified.{IsJudgement}
use Rattle.recover.proofs.recovered.handed_out_if_judged.Goals as goal

pub returns-in-Ok-clause-reason : goal.returns-in-Ok-clause-reason
returns-in-Ok-clause-reason c = λ native filter is.
    c.handed_out.ensures.reason native filter (subst (IsJudgement native (string_bytes c.args.bundle) filter) c.in-Ok.is is)

pub returns-in-Ok-clause-draft : goal.returns-in-Ok-clause-draft
returns-in-Ok-clause-draft c = λ native filter is.
    c.handed_out.ensures.draft native filter (subst (IsJudgement native (string_bytes c.args.bundle) filter) c.in-Ok.is is)
