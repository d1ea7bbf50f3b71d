use Rattle.std.proofs.Common.{ℕ, ◌<◌}
use Rattle.std.specs.Prelude.{slice_index_or}
use Rattle.profile.specs.declared.conditions.Cond.{Cond}
use Rattle.cert_check.specs.inner.Claimed.{mets_of}
use Rattle.cert_check.specs.inner.Judged.{IsYesOrMet}
use Rattle.cert_check.proofs.conditions.one_open.Given as goal

abbrev pub invariant-loop-own : goal.invariant-loop-own
invariant-loop-own g l =
    (k : ℕ) (d : Cond) → k < l.own
    → IsYesOrMet l.narrow (mets_of l.mets.node) (g.K.Knowledge.known l.known) l.place k (slice_index_or l.conds k d)
