use Rattle.std.proofs.Common.{subst, sym, arith}
use Rattle.cert_form.specs.inner.Standing.{IsTailThere}
use Rattle.cert_form.proofs.TailLaws.{step_there, split_there, none_there}
use Rattle.cert_form.proofs.judge.judge_tail.Goals as goal

pub returns-then-kind-gt1-clause-sound : goal.returns-then-kind-gt1-clause-sound
returns-then-kind-gt1-clause-sound c = none_there c.args.bytes.now c.args.at c.args.kind c.requires.there c.if-kind-gt1.true c.requires.kind

pub returns-then-kind-eq1-clause-sound : goal.returns-then-kind-eq1-clause-sound
returns-then-kind-eq1-clause-sound c =
    subst (λ k. IsTailThere c.args.bytes.now k c.args.at) (sym c.if-kind-eq1.true)
    (split_there c.args.bytes.now c.args.at (λ i. omega (arith, c.type_inv.bytes i))
    (omega arith) c.in_ok-judge_literal.ensures.sound c.in_ok-judge_literal-2.ensures.sound)

pub returns-clause-sound : goal.returns-clause-sound
returns-clause-sound c =
    subst (λ k. IsTailThere c.args.bytes.now k c.args.at) (omega (arith, c.if-kind-eq1.false, c.if-kind-gt1.false))
    (step_there c.args.bytes.now c.args.at (λ i. omega (arith, c.type_inv.bytes i)) (omega arith))
