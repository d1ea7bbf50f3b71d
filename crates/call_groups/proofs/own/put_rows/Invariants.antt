use Rattle.std.proofs.Common.{◌≡◌, ◌++◌, map, take}
use Rattle.call_groups.specs.Groups.{names_in, now_of, row}
use Rattle.call_groups.proofs.own.put_rows.Given as goal

abbrev pub invariant-loop-row : goal.invariant-loop-row
invariant-loop-row l =
    map now_of l.names.items ≡ map now_of l.initial.names.items ++ names_in (map row (take l.row-index l.rows)) l.group
