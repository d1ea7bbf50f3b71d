use Rattle.std.proofs.Common.{◌-◌, arith, inl, inr}
use Rattle.std.proofs.lemmas.Bool.{cases_lt}
use Rattle.cert_state.proofs.points.first_free.Goals as goal

pub returns-then-run-lt64-clause-all : goal.returns-then-run-lt64-clause-all
returns-then-run-lt64-clause-all g c = λ u from to. elim (cases_lt u c.loop-at.at) [
  | inl below ↦ c.loop-at.invariant.all u from below
  | inr above ↦ c.excluded_run-run.ensures.all (u - c.loop-at.at) u (omega arith) (omega arith)
]

pub loop-at-preserved : goal.loop-at-preserved
loop-at-preserved g c = record {
  from = omega (arith, c.loop-at.invariant.from);
  all = λ u from to. elim (cases_lt u c.loop-at.at) [
    | inl below ↦ c.loop-at.invariant.all u from below
    | inr above ↦ c.excluded_run-run.ensures.all (u - c.loop-at.at) u (omega arith) (omega arith)
  ];
}
