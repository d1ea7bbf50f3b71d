use Rattle.std.proofs.Common.{◌≡◌, ℕ, ◌<◌, Some}
use Rattle.std.specs.Prelude.{slice_get, slice_index_or}
use Rattle.cert_state.specs.declared.literal.AVal.{AVal}
use Rattle.cert_state.specs.declared.literal.AVal.TheVariants.{Unknown}
use Rattle.cert_check.specs.Rules.{Allows}
use Rattle.cert_check.proofs.entailed.allows_scratch.Given as goal

abbrev pub invariant-loop-j : goal.invariant-loop-j
invariant-loop-j l = (k : ℕ) (v : AVal) → k < l.j → slice_get l.there k ≡ Some v → Allows v (slice_index_or l.here k Unknown)
