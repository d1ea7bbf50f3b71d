use Rattle.std.proofs.Common.{◌≡◌, drop}
use Rattle.std.specs.List.{find}
use Rattle.together.specs.Word.{is_laxest}
use Rattle.together.proofs.way.laxest.Given as goal

abbrev pub invariant-loop-word : goal.invariant-loop-word
invariant-loop-word l = find (is_laxest l.words) l.words ≡ find (is_laxest l.words) (drop l.word-index l.words)
