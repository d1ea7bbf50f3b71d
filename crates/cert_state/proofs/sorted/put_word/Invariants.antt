use Rattle.std.proofs.Common.{◌≡◌, ◌≤◌, ◌++◌, length, take}
use Rattle.cert_state.specs.inner.Sorted.{of_word}
use Rattle.cert_state.proofs.sorted.put_word.Given as goal

-- what is put so far, and what is left to put
abbrev pub invariant-loop-literal : goal.invariant-loop-literal
invariant-loop-literal g l = record {
  ordered : l.from ≤ l.to;
  within : l.to ≤ length l.initial.table.lits;
  room : length l.table.lits ≡ length l.initial.table.lits;
  before : take l.from l.table.lits ≡ take l.from l.initial.table.lits;
  put : take l.to l.table.lits ++ of_word l.word (g.S.State.rest l.state l.at)
      ≡ take l.from l.initial.table.lits ++ of_word l.word (g.S.State.known l.state);
}

abbrev pub decreases-loop-literal : goal.decreases-loop-literal
decreases-loop-literal g l = length (g.S.State.rest l.state l.at)
