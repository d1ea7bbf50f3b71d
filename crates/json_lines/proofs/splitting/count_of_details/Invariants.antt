-- All lines so far are details.
use Rattle.std.proofs.Common.{◌≡◌, ◌+◌, drop}
use Rattle.json_lines.specs.inner.Tokens.{count}
use Rattle.json_lines.specs.inner.Views.{texts}
use Rattle.json_lines.proofs.splitting.count_of_details.Given as goal

abbrev pub invariant-loop-at : goal.invariant-loop-at
invariant-loop-at l = count (texts l.lines) ≡ l.at + count (texts (drop l.at l.lines))
