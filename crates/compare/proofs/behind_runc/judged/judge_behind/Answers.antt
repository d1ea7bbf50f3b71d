use Rattle.maker.proofs.EvidenceLaws.{profile_open}
use Rattle.compare.proofs.behind_runc.judged.judge_behind.Goals as goal

pub returns-in-Err : goal.returns-in-Err
returns-in-Err c =
    profile_open c.args.document.now.native c.args.document.now.bytes c.args.filter.now c.in-Err.error c.from.result c.in-Err.ensures.err c.from.ensures
