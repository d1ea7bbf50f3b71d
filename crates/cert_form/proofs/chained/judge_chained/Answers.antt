use Rattle.std.proofs.Common.{◌+◌, subst, arith}
use Rattle.std.proofs.lemmas.Result.{err_from_is_err_and}
use Rattle.std.specs.Prelude.{slice_index}
use Rattle.cert_form.specs.Reading.{chain_place}
use Rattle.cert_form.specs.inner.Standing.{IsTailThere}
use Rattle.cert_form.proofs.StandLaws.{weaker}
use Rattle.cert_form.proofs.ReadLaws.{chain_place-after}
use Rattle.cert_form.proofs.ChainedLaws.{chained_there, chained_end}
use Rattle.cert_form.proofs.chained.judge_chained.Goals as goal

pub returns-in_err-judge_front-clause-fault : goal.returns-in_err-judge_front-clause-fault
returns-in_err-judge_front-clause-fault c =
    let bytes = c.args.bytes.now in
    let p = err_from_is_err_and c.from_residual.result c.from_residual.ensures.1 in
    rw (p.1, p.2) (weaker c.in_err-judge_front.field-0.0 bytes (c.args.at + 16) _
    (omega (arith, chained_end bytes c.args.at c.requires.form, chain_place-after bytes c.args.at))
    (λ bad. bad) c.in_err-judge_front.ensures.fault)

pub returns-clause-sound : goal.returns-clause-sound
returns-clause-sound c =
    let bytes = c.args.bytes.now in
    chained_there bytes c.args.at
    (λ i. omega (arith, c.type_inv.bytes i)) c.requires.form c.in_ok-judge_front.ensures.sound c.in_ok-judge_scratch.ensures.sound
    c.in_ok-judge_chain.ensures.sound
    (subst (λ place. IsTailThere bytes (slice_index bytes c.args.at) place)
    (omega (arith, c.chain_place_of-place.ensures)) c.in_ok-judge_tail.ensures.sound)

pub returns-in_err-judge_scratch-clause-fault : goal.returns-in_err-judge_scratch-clause-fault
returns-in_err-judge_scratch-clause-fault c =
    let bytes = c.args.bytes.now in
    let p = err_from_is_err_and c.from_residual-in_err-judge_scratch.result c.from_residual-in_err-judge_scratch.ensures.1 in
    rw (p.1, p.2) (weaker c.in_err-judge_scratch.field-0.0 bytes (chain_place bytes c.args.at) _
    (omega (arith, chained_end bytes c.args.at c.requires.form))
    (λ bad. bad) c.in_err-judge_scratch.ensures.fault)

pub returns-in_err-judge_chain-clause-fault : goal.returns-in_err-judge_chain-clause-fault
returns-in_err-judge_chain-clause-fault c =
    let bytes = c.args.bytes.now in
    let p = err_from_is_err_and c.from_residual-in_err-judge_chain.result c.from_residual-in_err-judge_chain.ensures.1 in
    rw (p.1, p.2) (weaker c.in_err-judge_chain.field-0.0 bytes (chain_place bytes c.args.at + 4) _
    (omega (arith, chained_end bytes c.args.at c.requires.form))
    (λ bad. bad) c.in_err-judge_chain.ensures.fault)

pub returns-clause-end : goal.returns-clause-end
returns-clause-end c =
    omega (arith, c.chain_place_of-place.ensures, c.tail_size.ensures, chained_end c.args.bytes.now c.args.at c.requires.form)
