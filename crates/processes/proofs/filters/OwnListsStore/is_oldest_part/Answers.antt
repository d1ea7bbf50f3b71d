use Rattle.processes.proofs.FilterLemmas.{loads_seen}
use Rattle.processes.proofs.filters.OwnListsStore.is_oldest_part.Goals as goal

pub returns : goal.returns
returns c = rw (loads_seen c.args.older.now, loads_seen c.args.newer.now) c.is_oldest_part_of.ensures
