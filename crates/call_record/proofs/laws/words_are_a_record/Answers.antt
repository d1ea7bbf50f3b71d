use Rattle.call_record.proofs.RecordLemmas.{words-is_record}
use Rattle.call_record.proofs.laws.words_are_a_record.Goals as goal

pub returns : goal.returns
returns c = words-is_record c.args.call.now
