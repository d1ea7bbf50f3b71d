use Rattle.std.proofs.Common.{None, rules, ◌≡◌, ◌<◌, ◌^◌, ◌*◌, ◌-◌, arith}
use Rattle.call_record.proofs.BitLemmas.{least_up, none_up, pow_up, none_at_zero, bit_missing}
use Rattle.call_record.proofs.bits.+least_below.Goals as goal

pub returns-then-bits-eq0-clause-none : goal.returns-then-bits-eq0-clause-none
returns-then-bits-eq0-clause-none t c = λ v lt le e.
    let small : v < 1 = (let z : c.args.bits ≡ 0 = c.if-bits-eq0.true in rw z at lt) in
    none_at_zero _ _ _ v c.if-from-mask.false small le e

pub returns-then-mask-datum-clause-none : goal.returns-then-mask-datum-clause-none
returns-then-mask-datum-clause-none t c = λ v lt le e. bit_missing v _ _ c.if-mask-datum.true e

pub returns-in_err-high-clause-none : goal.returns-in_err-high-clause-none
returns-in_err-high-clause-none t c =
    let absent : c.from_residual.result ≡ None = search rules in
    rw absent (λ v lt le e.
    let up : 2 ^ c.args.bits ≡ 2 * 2 ^ (c.args.bits - 1) = pow_up c.args.bits (omega arith) in
    none_up _ _ _ (c.args.bits - 1) v c.if-from-mask.false c.in_err-high.ensures.none (omega arith) le e)

pub returns-clause-found : goal.returns-clause-found
returns-clause-found t c = least_up _ _ _ _ c.if-from-mask.false (omega arith) c.in_ok-high.ensures.found

pub returns-clause-below : goal.returns-clause-below
returns-clause-below t c =
    let up : 2 ^ c.args.bits ≡ 2 * 2 ^ (c.args.bits - 1) = pow_up c.args.bits (omega arith) in
    let lt : c.in_ok-high.high < 2 ^ (c.args.bits - 1) = c.in_ok-high.ensures.below in
    omega arith
