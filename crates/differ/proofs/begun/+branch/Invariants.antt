use Rattle.differ.proofs.begun.+branch.Given as goal

abbrev pub decreases-branch : goal.decreases-branch
decreases-branch l = l.rest
