use Rattle.maker.proofs.FindingLaws.{findings_exclude}
use Rattle.maker.proofs.law.findings_exclude.Goals as goal

pub returns : goal.returns
returns c = findings_exclude c.meaning_is_unbroken.ensures c.meaning_is_one.ensures
