use Rattle.std.proofs.Common.{◌≡◌, map, take}
use Rattle.call_groups.specs.Groups.{now_of}
use Rattle.review.specs.SystemdTold.{undecided_names}
use Rattle.review.proofs.systemd_text.undecided_names.Given as goal

abbrev pub invariant-loop-member : goal.invariant-loop-member
invariant-loop-member l = map now_of l.names.items ≡ undecided_names (take l.member-index l.list)
