use Rattle.call_record.proofs.bits.+least_below.Given as goal

abbrev pub decreases-least_below : goal.decreases-least_below
decreases-least_below l = l.bits
