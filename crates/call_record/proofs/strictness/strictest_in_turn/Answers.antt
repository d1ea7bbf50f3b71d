use Rattle.call_record.proofs.StrictestLemmas.{strictest_of-cons}
use Rattle.call_record.proofs.strictness.strictest_in_turn.Goals as goal

pub returns : goal.returns
returns c = strictest_of-cons c.args.newest c.args.older.now
