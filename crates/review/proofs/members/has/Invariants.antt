use Rattle.std.proofs.Common.{◌≡◌, drop}
use Rattle.std.specs.List.{list_any}
use Rattle.review.specs.Systemd.{has_on}
use Rattle.review.proofs.members.has.Given as goal

abbrev pub invariant-loop-arch : goal.invariant-loop-arch
invariant-loop-arch l = list_any (has_on l.name) (drop l.arch-index l.machines) ≡ list_any (has_on l.name) l.machines
