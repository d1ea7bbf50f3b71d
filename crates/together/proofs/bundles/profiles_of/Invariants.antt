use Rattle.std.proofs.Common.{map, take}
use Rattle.std.specs.List.{AllZip}
use Rattle.together.specs.Combined.{IsBundle}
use Rattle.together.proofs.bundles.profiles_of.Given as goal

abbrev pub invariant-loop-bundle : goal.invariant-loop-bundle
invariant-loop-bundle l = AllZip (IsBundle l.native) (map (λ b. b.items) (take l.bundle-index l.bundles)) l.profiles.items
