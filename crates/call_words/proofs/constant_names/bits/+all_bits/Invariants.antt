use Rattle.std.proofs.Common.{length}
use Rattle.call_words.proofs.constant_names.bits.+all_bits.Given as goal

abbrev pub decreases-all_bits : goal.decreases-all_bits
decreases-all_bits l = length l.constants.now
