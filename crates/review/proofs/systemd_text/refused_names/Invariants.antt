use Rattle.std.proofs.Common.{◌≡◌, map, take}
use Rattle.call_groups.specs.Groups.{now_of}
use Rattle.review.specs.SystemdTold.{refused_names}
use Rattle.review.proofs.systemd_text.refused_names.Given as goal

abbrev pub invariant-loop-member : goal.invariant-loop-member
invariant-loop-member l = map now_of l.names.items ≡ refused_names (take l.member-index l.list)
