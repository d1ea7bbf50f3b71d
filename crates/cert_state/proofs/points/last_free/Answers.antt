use Rattle.std.proofs.Common.{◌≡◌, ◌<◌, ◌≤◌, ◌+◌, ◌-◌, ℕ, arith, inl, inr}
use Rattle.std.proofs.lemmas.Bool.{cases_lt}
use Rattle.cert_state.proofs.points.last_free.Goals as goal

-- a run of excluded numbers does not reach one that is not
stops : (low end run : ℕ) → low ≤ end → ((k : ℕ) → k < run → low + k ≡ end → ⊥) → run + low ≤ end
stops low end run from never = elim (cases_lt (end - low) run) [
  | inl reaches ↦ absurd (never (end - low) reaches (omega arith))
  | inr short ↦ omega arith
]

pub overflow_sub-end : goal.overflow_sub-end
overflow_sub-end g c =
    let room = stops c.args.low c.loop-word.end c.excluded_run-run.result c.loop-word.invariant.from
    (λ k lt at. c.requires.free (c.excluded_run-run.ensures.all k c.args.low lt at)) in
    omega arith

pub returns-then-run-lt64-clause-from : goal.returns-then-run-lt64-clause-from
returns-then-run-lt64-clause-from g c =
    let room = stops c.args.low c.loop-word.end c.excluded_run-run.result c.loop-word.invariant.from
    (λ k lt at. c.requires.free (c.excluded_run-run.ensures.all k c.args.low lt at)) in
    omega arith

pub returns-then-run-lt64-clause-all : goal.returns-then-run-lt64-clause-all
returns-then-run-lt64-clause-all g c = λ u above to. elim (cases_lt c.loop-word.end u) [
  | inl seen ↦ c.loop-word.invariant.all u seen to
  | inr below ↦ c.excluded_run-run.ensures.all (c.loop-word.end - u) u (omega arith) (omega arith)
]

pub returns-then-run-lt64-clause-free : goal.returns-then-run-lt64-clause-free
returns-then-run-lt64-clause-free g c =
    let room = stops c.args.low c.loop-word.end c.excluded_run-run.result c.loop-word.invariant.from
    (λ k lt at. c.requires.free (c.excluded_run-run.ensures.all k c.args.low lt at)) in
    c.excluded_run-run.ensures.next c.if-run-lt64.true (c.loop-word.end - c.excluded_run-run.result) (omega arith)

pub loop-word-preserved : goal.loop-word-preserved
loop-word-preserved g c =
    let room = stops c.args.low c.loop-word.end c.excluded_run-run.result c.loop-word.invariant.from
    (λ k lt at. c.requires.free (c.excluded_run-run.ensures.all k c.args.low lt at)) in
    record {
      from = omega arith;
      to = omega (arith, c.loop-word.invariant.to);
      all = λ u above to. elim (cases_lt c.loop-word.end u) [
        | inl seen ↦ c.loop-word.invariant.all u seen to
        | inr below ↦ c.excluded_run-run.ensures.all (c.loop-word.end - u) u (omega arith) (omega arith)
      ];
    }
