use Rattle.std.proofs.Common.{length}
use Rattle.call_words.proofs.constant_names.bits.+put_names.Given as goal

abbrev pub decreases-put_names : goal.decreases-put_names
decreases-put_names l = length l.constants.now
