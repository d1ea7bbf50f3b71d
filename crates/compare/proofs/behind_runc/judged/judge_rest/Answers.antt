use Rattle.std.proofs.Common.{inr, subst}
use Rattle.maker.specs.declared.evidence.evidence.Evidence.{Evidence}
use Rattle.maker.specs.Certified.{IsEvidenceFor}
use Rattle.compare.proofs.behind_runc.judged.judge_rest.Goals as goal

pub judge_found-requires-clause-found : goal.judge_found-requires-clause-found
judge_found-requires-clause-found c = λ native bundle means.
    subst (λ (e : Evidence). IsEvidenceFor native bundle c.args.behind.now.rest.now e) c.in-Ok-Refuting.field-0-is
    (c.in-Ok-Refuting.ensures.found native bundle means)

pub returns-in-Err : goal.returns-in-Err
returns-in-Err c = λ native bundle means.
    inr (c.in-Err.ensures.found native bundle means, tt, (c.args.profile.now, means, c.requires.spared))

pub returns-in-Ok-Certificate : goal.returns-in-Ok-Certificate
returns-in-Ok-Certificate c = λ native bundle means. inr (
  subst (λ (e : Evidence). IsEvidenceFor native bundle c.args.behind.now.rest.now e) c.in-Ok-Certificate.field-0-is
      (c.in-Ok-Certificate.ensures.found native bundle means),
  tt,
  (c.args.profile.now, means, c.requires.spared),
)
