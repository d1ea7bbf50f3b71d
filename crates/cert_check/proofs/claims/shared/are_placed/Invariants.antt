use Rattle.std.proofs.Common.{ℕ, ◌<◌}
use Rattle.std.specs.Prelude.{slice_index_or}
use Rattle.cert_form.specs.declared.node.Claim.{Claim}
use Rattle.cert_form.specs.Views.{all_claims}
use Rattle.cert_check.specs.inner.Followed.{IsPlaced}
use Rattle.cert_check.proofs.claims.shared.are_placed.Given as goal

abbrev pub invariant-loop-i : goal.invariant-loop-i
invariant-loop-i l = (k : ℕ) (d : Claim) → k < l.i → IsPlaced l.profile (slice_index_or (all_claims l.view) k d)
