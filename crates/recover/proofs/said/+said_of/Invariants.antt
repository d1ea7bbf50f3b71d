use Rattle.recover.proofs.said.+said_of.Given as goal

abbrev pub decreases-said_of : goal.decreases-said_of
decreases-said_of l = l.left
