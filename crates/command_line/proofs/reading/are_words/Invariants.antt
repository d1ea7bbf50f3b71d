use Rattle.std.proofs.Common.{◌≡◌, true, take}
use Rattle.std.specs.List.{list_all}
use Rattle.command_line.specs.Lines.{is_word}
use Rattle.command_line.proofs.Words.{beside}
use Rattle.command_line.proofs.reading.are_words.Given as goal

abbrev pub invariant-loop-place : goal.invariant-loop-place
invariant-loop-place l = list_all is_word (take l.place (beside l.parts l.words)) ≡ true
