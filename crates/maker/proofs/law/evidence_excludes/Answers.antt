use Rattle.maker.proofs.EvidenceLaws as laws
use Rattle.maker.proofs.law.evidence_excludes.Goals as goal

pub returns : goal.returns
returns c = laws.evidence_excludes c.meaning_is_one.ensures
