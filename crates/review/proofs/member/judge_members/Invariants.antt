use Rattle.std.proofs.Common.{map, take}
use Rattle.call_groups.specs.Groups.{now_of}
use Rattle.review.specs.Systemd.{AreStanding}
use Rattle.review.proofs.member.judge_members.Given as goal

abbrev pub invariant-loop-name : goal.invariant-loop-name
invariant-loop-name l = AreStanding l.profile (map now_of (take l.name-index l.names)) l.list.items
