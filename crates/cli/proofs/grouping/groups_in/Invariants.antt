use Rattle.std.proofs.Common.{◌≡◌, map, take}
use Rattle.cli.specs.Grouped.{groups_in}
use Rattle.cli.proofs.WantedLaws.{now_of}
use Rattle.cli.proofs.grouping.groups_in.Given as goal

abbrev pub invariant-loop-word : goal.invariant-loop-word
invariant-loop-word l = map now_of l.groups.items ≡ groups_in (map now_of (take l.word-index l.words))
