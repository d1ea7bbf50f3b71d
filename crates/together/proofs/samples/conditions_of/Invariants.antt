use Rattle.std.proofs.Common.{◌≡◌, take}
use Rattle.std.specs.List.{flat_map}
use Rattle.together.specs.OnCall.{own_conditions}
use Rattle.together.proofs.samples.conditions_of.Given as goal

abbrev pub invariant-loop-profile : goal.invariant-loop-profile
invariant-loop-profile l = l.list.items ≡ flat_map (own_conditions l.call l.index) (take l.profile-index l.profiles)
