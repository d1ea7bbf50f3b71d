use Rattle.certify.proofs.certifying.certify.Goals as goal

pub returns-in-Err-clause-never : goal.returns-in-Err-clause-never
returns-in-Err-clause-never c = λ is shape.
    let refused = c.in-Err.ensures.refused in
    absurd (shape.accepted.no_cause c.in-Err.refused.pc c.in-Err.refused.cause refused.stands)

pub returns-in-Err-clause-sure : goal.returns-in-Err-clause-sure
returns-in-Err-clause-sure c = λ accepted right steady.
    let refused = c.in-Err.ensures.refused in
    absurd (accepted.no_cause c.in-Err.refused.pc c.in-Err.refused.cause refused.stands)

pub returns-in-Err-clause-telling : goal.returns-in-Err-clause-telling
returns-in-Err-clause-telling c = λ accepted right telling.
    let refused = c.in-Err.ensures.refused in
    absurd (accepted.no_cause c.in-Err.refused.pc c.in-Err.refused.cause refused.stands)
