use Rattle.std.proofs.Common.{◌≡◌, ◌≤◌, ◌<◌, ℕ, length}
use Rattle.std.specs.Prelude.{slice_index_or}
use Rattle.cert_state.specs.declared.sorted.Part.{Part}
use Rattle.cert_state.specs.inner.Sorted.{IsPartOf}
use Rattle.cert_state.proofs.sorted.by_words.Given as goal

abbrev pub invariant-loop-i : goal.invariant-loop-i
invariant-loop-i g l = record {
  within : l.from ≤ length l.initial.table.lits;
  room : length l.table.lits ≡ length l.initial.table.lits;
  sixteen : length l.parts ≡ 16;
  parts : (w : ℕ) (part : Part) → w < l.i
      → (IsPartOf (g.S.State.known l.state) l.table.lits w (slice_index_or l.parts w part)) × ((slice_index_or l.parts w part).to ≤ l.from);
}
