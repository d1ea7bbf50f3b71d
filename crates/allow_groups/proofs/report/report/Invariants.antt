use Rattle.std.proofs.Common.{◌≡◌, map, take}
use Rattle.std.specs.Prelude.{string_bytes}
use Rattle.call_groups.specs.Groups.{now_of}
use Rattle.allow_groups.specs.Report.{report}
use Rattle.allow_groups.proofs.report.report.Given as goal

abbrev pub invariant-loop-group : goal.invariant-loop-group
invariant-loop-group l = string_bytes l.text ≡ report l.machines (map now_of (take l.group-index l.groups))
