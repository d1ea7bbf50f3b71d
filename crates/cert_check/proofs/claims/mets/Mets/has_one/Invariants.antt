use Rattle.std.proofs.Common.{ℕ, ◌<◌}
use Rattle.std.specs.Prelude.{Contains}
use Rattle.cert_check.specs.inner.Claimed.{mets_of}
use Rattle.cert_check.proofs.claims.mets.Mets.has_one.Given as goal

abbrev pub invariant-loop-own : goal.invariant-loop-own
invariant-loop-own l = (k : ℕ) → k < l.own → Contains (mets_of l.self.node) (l.rule, k) → ⊥
