use Rattle.std.proofs.Common.{◌≡◌, ◌≤◌, ◌++◌, length, take}
use Rattle.cert_state.proofs.sorted.copy_all.Given as goal

-- what is copied so far, and what is left to copy
abbrev pub invariant-loop-literal : goal.invariant-loop-literal
invariant-loop-literal g l = record {
  within : l.count ≤ length l.initial.lits;
  room : length l.lits ≡ length l.initial.lits;
  copied : take l.count l.lits ++ g.S.State.rest l.state l.at ≡ g.S.State.known l.state;
}

abbrev pub decreases-loop-literal : goal.decreases-loop-literal
decreases-loop-literal g l = length (g.S.State.rest l.state l.at)
