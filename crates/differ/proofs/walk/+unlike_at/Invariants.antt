use Rattle.std.proofs.Common.{◌+◌, ◌-◌, ◌*◌}
use Rattle.differ.proofs.walk.+unlike_at.Given as goal

abbrev pub decreases-unlike_at : goal.decreases-unlike_at
decreases-unlike_at l = 65 * (6 - l.index) + l.rest
