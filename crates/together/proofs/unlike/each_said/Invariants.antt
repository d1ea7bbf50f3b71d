use Rattle.std.proofs.Common.{◌≡◌, take}
use Rattle.call_record.specs.Record.{words}
use Rattle.together.specs.Together.{each_said}
use Rattle.together.proofs.unlike.each_said.Given as goal

abbrev pub invariant-loop-profile : goal.invariant-loop-profile
invariant-loop-profile l = l.list.items ≡ each_said (take l.profile-index l.profiles) (words l.call)
