use Rattle.std.proofs.Common.{◌≡◌, ℕ, ◌<◌, map, Some}
use Rattle.std.specs.List.{slice_get}
use Rattle.profile_json.specs.Parts.{EntryParts}
use Rattle.profile_json.specs.inner.View.{entry_parts}
use Rattle.profile_json.specs.inner.Clashes.{NoClash}
use Rattle.profile_json.proofs.overlaps.overlap_of.Given as goal

abbrev pub invariant-loop-first : goal.invariant-loop-first
invariant-loop-first l = (j : ℕ) → j < l.first → (x : EntryParts) → slice_get (map entry_parts l.entries) j ≡ Some x
    → NoClash l.machines x (entry_parts l.later)
