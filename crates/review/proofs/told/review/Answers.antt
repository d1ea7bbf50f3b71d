use Rattle.review.proofs.ReviewedLaws.{is_refused}
use Rattle.review.proofs.told.review.Goals as goal

pub returns-in-Err : goal.returns-in-Err
returns-in-Err c =
    is_refused c.args.document.now.native c.args.document.now.bytes c.in-Err.error c.refused_profile.result c.in-Err.ensures.fault
    c.refused_profile.ensures.fault c.refused_profile.ensures.told
