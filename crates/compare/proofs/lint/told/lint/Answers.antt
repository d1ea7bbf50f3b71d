use Rattle.compare.proofs.LintedLaws.{is_judged, is_refused}
use Rattle.compare.proofs.lint.told.lint.Goals as goal

pub returns-in-Ok : goal.returns-in-Ok
returns-in-Ok c = is_judged c.args.document.now.native c.args.document.now.bytes c.judged.result c.judged.ensures

pub returns-in-Err : goal.returns-in-Err
returns-in-Err c =
    is_refused c.args.document.now.native c.args.document.now.bytes c.in-Err.error c.refused_profile.result c.in-Err.ensures.err
    c.refused_profile.ensures.fault c.refused_profile.ensures.told
