-- No byte so far is a line feed.
use Rattle.std.proofs.Common.{◌≡◌, take}
use Rattle.std.specs.Prelude.{◌==◌, false}
use Rattle.std.specs.List.{All}
use Rattle.texts.specs.Lines.{line_feed}
use Rattle.wording.proofs.lines.split_line.Given as goal

abbrev pub invariant-loop-at : goal.invariant-loop-at
invariant-loop-at l = All (λ b. (b == line_feed) ≡ false) (take l.at l.text)
