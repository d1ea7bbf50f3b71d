-- The signs so far, and the words that are left, give the signs of the line.
use Rattle.std.proofs.Common.{◌≡◌, length}
use Rattle.explain.specs.Audit.{signs_on, words_on}
use Rattle.explain.specs.Signs.{signs_from}
use Rattle.explain.proofs.audited.signs.signs_on.Given as goal

abbrev pub invariant-word : goal.invariant-word
invariant-word l = signs_from l.signs (words_on l.rest) ≡ signs_on l.line

abbrev pub decreases-word : goal.decreases-word
decreases-word l = length l.rest
