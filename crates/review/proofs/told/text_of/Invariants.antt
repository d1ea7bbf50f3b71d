use Rattle.std.proofs.Common.{take}
use Rattle.std.specs.Prelude.{string_bytes}
use Rattle.review.specs.Told.{TellsGroups}
use Rattle.review.proofs.told.text_of.Given as goal

abbrev pub invariant-loop-group : goal.invariant-loop-group
invariant-loop-group l = TellsGroups l.profile l.all.rules.items l.all.ends.items (take l.group-index l.groups) (string_bytes l.text)
