use Rattle.std.proofs.Common.{◌≡◌, map, take}
use Rattle.call_groups.specs.Groups.{now_of}
use Rattle.review.specs.SystemdTold.{open_names}
use Rattle.review.proofs.systemd_text.open_names.Given as goal

abbrev pub invariant-loop-member : goal.invariant-loop-member
invariant-loop-member l = map now_of l.names.items ≡ open_names (take l.member-index l.list)
