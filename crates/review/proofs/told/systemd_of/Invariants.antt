use Rattle.std.proofs.Common.{map, take}
use Rattle.std.specs.Prelude.{string_bytes}
use Rattle.call_groups.specs.Groups.{now_of}
use Rattle.review.specs.SystemdTold.{TellsSystemd}
use Rattle.review.proofs.told.systemd_of.Given as goal

abbrev pub invariant-loop-group : goal.invariant-loop-group
invariant-loop-group l = TellsSystemd l.profile (map now_of (take l.group-index l.groups)) (string_bytes l.text)
