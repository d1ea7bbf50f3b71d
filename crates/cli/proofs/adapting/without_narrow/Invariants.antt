use Rattle.std.proofs.Common.{◌≡◌, map, take}
use Rattle.std.specs.Prelude.{filter, not}
use Rattle.cli.proofs.WantedLaws.{now_of}
use Rattle.cli.specs.Adapted.{is_narrow}
use Rattle.cli.proofs.adapting.without_narrow.Given as goal

abbrev pub invariant-loop-word : goal.invariant-loop-word
invariant-loop-word l = map now_of l.rest.items ≡ filter (λ word. not (is_narrow word)) (map now_of (take l.word-index l.words))
