use Rattle.std.proofs.Common.{◌≡◌, drop, map}
use Rattle.std.specs.List.{list_any}
use Rattle.std.specs.Str.{bytes_eq}
use Rattle.call_groups.specs.Groups.{now_of}
use Rattle.review.proofs.members.is_among.Given as goal

abbrev pub invariant-loop-other : goal.invariant-loop-other
invariant-loop-other l =
    list_any (bytes_eq l.name) (map now_of (drop l.other-index l.names)) ≡ list_any (bytes_eq l.name) (map now_of l.names)
