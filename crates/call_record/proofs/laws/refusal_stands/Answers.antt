use Rattle.call_record.proofs.StrictestLemmas.{refusal_stands}
use Rattle.call_record.proofs.laws.refusal_stands.Goals as goal

pub returns : goal.returns
returns c = refusal_stands c.args.newest_first.now c.args.word c.requires.answered c.requires.refusal
