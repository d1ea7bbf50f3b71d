use Rattle.std.proofs.Common.{◌≡◌, ◌<◌, ◌+◌, ◌*◌, ◌-◌, ◌/◌, ◌%◌, ℕ, suc, List, subst, arith}
use Rattle.std.proofs.lemmas.Result.{err_from_is_err_and}
use Rattle.cert_form.specs.Faults.{IsBadStated}
use Rattle.cert_form.specs.Reading.{ones}
use Rattle.cert_form.specs.inner.Standing.{AreStatedThere}
use Rattle.cert_form.proofs.StandLaws.{weaker}
use Rattle.cert_form.proofs.ScratchLaws.{ones_more, none_stated, stated_more, unstated_more}
use Rattle.cert_form.proofs.chained.judge_values.Goals as goal
use Rattle.cert_form.proofs.chained.judge_values.Goals.{then-left-eq1+in_ok-judge_stated, else-left-eq1}

-- the bits that are left, one fewer
one_fewer : (left counter : ℕ) → counter < 16 → ones left (16 - counter) ≡ left % 2 + ones (left / 2) (16 - (counter + 1))
one_fewer left counter h =
    let e : 16 - counter ≡ suc (16 - (counter + 1)) = omega arith in
    rw e (ones_more left (16 - (counter + 1)))

fewer_left : (bytes : List ℕ) (at left counter : ℕ) → counter < 16 → AreStatedThere bytes at left (suc (16 - (counter + 1)))
    → AreStatedThere bytes at left (16 - counter)
fewer_left bytes at left counter h p = subst (λ n. AreStatedThere bytes at left n) (omega arith) p

pub returns-in_err-judge_stated-clause-fault : goal.returns-in_err-judge_stated-clause-fault
returns-in_err-judge_stated-clause-fault c =
    let p = err_from_is_err_and c.from_residual.result c.from_residual.ensures.1 in
    let i = c.loop.invariant in
    let k : ℕ = ones c.args.bits 16 - ones c.loop.left (16 - c.loop.counter) in
    let fewer = one_fewer c.loop.left c.loop.counter c.loop-test.true in
    let here : c.loop.at ≡ c.args.from + 6 * k = omega (arith, i.place, i.after) in
    rw (p.1, p.2) (weaker c.in_err-judge_stated.field-0.0 c.args.bytes.now (c.loop.at + 6) (c.args.from + 6 * ones c.args.bits 16)
    (omega (arith, i.place, fewer, c.if-left-eq1.true))
    (λ bad. (k, omega (arith, i.place, i.after, fewer, c.if-left-eq1.true), subst (λ place. IsBadStated c.args.bytes.now place) here bad))
    c.in_err-judge_stated.ensures.fault)

pub loop-preserved : goal.loop-preserved
loop-preserved c = elim c.if-left-eq1.branch [
  | then-left-eq1+in_ok-judge_stated w ↦ record {
    whole = λ rest. c.loop.invariant.whole (fewer_left c.args.bytes.now c.loop.at c.loop.left c.loop.counter c.loop-test.true
        (stated_more c.args.bytes.now c.loop.at c.loop.left (16 -
        (c.loop.counter + 1)) w.in_ok-judge_stated.ensures.sound w.if-left-eq1.true
        (subst (λ k. AreStatedThere c.args.bytes.now k (c.loop.left / 2) (16 - (c.loop.counter + 1))) w.at-is rest)));
    place = omega (arith, one_fewer c.loop.left c.loop.counter c.loop-test.true, w.at-is, w.if-left-eq1.true, c.loop.invariant.place);
    after = omega (arith, w.at-is, c.loop.invariant.after);
    room = omega (arith, w.at-is, w.in_ok-judge_stated.ensures.sound.value.stands.room);
  }
  | else-left-eq1 w ↦ record {
    whole = λ rest. c.loop.invariant.whole (fewer_left c.args.bytes.now c.loop.at c.loop.left c.loop.counter c.loop-test.true
        (unstated_more c.args.bytes.now c.loop.at c.loop.left (16 - (c.loop.counter + 1)) w.if-left-eq1.false
        (subst (λ k. AreStatedThere c.args.bytes.now k (c.loop.left / 2) (16 - (c.loop.counter + 1))) w.at-is rest)));
    place = omega (arith, one_fewer c.loop.left c.loop.counter c.loop-test.true, w.at-is, w.if-left-eq1.false, c.loop.invariant.place);
    after = omega (arith, w.at-is, c.loop.invariant.after);
    room = omega (arith, w.at-is, c.loop.invariant.room);
  }
]

pub returns-clause-sound : goal.returns-clause-sound
returns-clause-sound c =
    c.loop.invariant.whole (none_stated c.args.bytes.now c.loop.at c.loop.left (16 - c.loop.counter) c.loop.invariant.room
    (omega (arith, c.loop-test.false)))
