use Rattle.std.proofs.Common.{◌≡◌, map, take}
use Rattle.std.specs.Prelude.{filter}
use Rattle.call_groups.specs.Groups.{now_of}
use Rattle.review.specs.Systemd.{has}
use Rattle.review.proofs.members.having.Given as goal

abbrev pub invariant-loop-name : goal.invariant-loop-name
invariant-loop-name l = map now_of l.list.items ≡ filter (has l.machines) (map now_of (take l.name-index l.names))
