use Rattle.std.proofs.Common.{◌≡◌, drop, map}
use Rattle.call_groups.specs.Groups.{now_of}
use Rattle.review.specs.Systemd.{once, once_behind}
use Rattle.review.proofs.members.once.Given as goal

abbrev pub invariant-loop-name : goal.invariant-loop-name
invariant-loop-name l = once_behind (map now_of l.list.items) (map now_of (drop l.name-index l.names)) ≡ once (map now_of l.names)
