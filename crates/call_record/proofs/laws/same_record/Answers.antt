use Rattle.call_record.proofs.RecordLemmas.{same_from_words}
use Rattle.call_record.proofs.laws.same_record.Goals as goal

pub returns : goal.returns
returns c = same_from_words c.args.a.now c.args.b.now c.requires
