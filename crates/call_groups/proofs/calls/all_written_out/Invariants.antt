use Rattle.std.proofs.Common.{◌≡◌, map, take}
use Rattle.call_groups.specs.Groups.{all_written_out, now_of}
use Rattle.call_groups.proofs.calls.all_written_out.Given as goal

abbrev pub invariant-loop-name : goal.invariant-loop-name
invariant-loop-name l = map now_of l.all.items ≡ all_written_out (map now_of (take l.name-index l.names))
