use Rattle.std.proofs.Common.{◌≡◌, ◌<◌, ℕ, get_or}
use Rattle.machines.specs.Width.{compared}
use Rattle.recover.proofs.seen.are_alike.Given as goal

abbrev pub invariant-loop-index : goal.invariant-loop-index
invariant-loop-index l = (j : ℕ) → j < l.index → compared l.narrow (get_or l.one.args j 0) ≡ compared l.narrow (get_or l.other.args j 0)
