-- A record that meets all of the conditions meets the first ones of the others.
use Rattle.std.proofs.Common.{◌<◌, ℕ, List}
use Rattle.std.specs.Prelude.{slice_index_or}
use Rattle.profile.specs.declared.conditions.Cond.{Cond}
use Rattle.engines.specs.Settled.{AreMet, IsMet}
use Rattle.engines.proofs.settling.covering.are_implied.Given as goal

abbrev pub invariant-loop-cond : goal.invariant-loop-cond
invariant-loop-cond l =
    (r : List ℕ) → AreMet r l.conds → (k : ℕ) (d : Cond) → k < l.cond-index → IsMet r (slice_index_or l.all k d)
