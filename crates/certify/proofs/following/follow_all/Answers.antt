use Rattle.std.proofs.Common.{arith, rules}
use Rattle.std.proofs.lemmas.Result.{err_from_is_err_and}
use Rattle.certify.proofs.following.follow_all.Goals as goal

pub loop-preserved : goal.loop-preserved
loop-preserved c = record {
  sound = c.in_ok-follow_next.ensures.sound;
  led = λ first. c.in_ok-follow_next.ensures.led (c.loop.invariant.led first);
  room = λ meant first. c.in_ok-follow_next.ensures.room meant (c.loop.invariant.room meant first);
}

pub loop-smaller : goal.loop-smaller
loop-smaller c =
    let more = c.in_ok-follow_next.ensures.one_more (search rules) in
    let sound = c.in_ok-follow_next.ensures.sound in
    let some = sound.some in
    let few = sound.paths.few in
    omega (arith, more, some, few)

pub returns-in_err-follow_next-clause-truly : goal.returns-in_err-follow_next-clause-truly
returns-in_err-follow_next-clause-truly c =
    let p = err_from_is_err_and c.from_residual.result c.from_residual.ensures.1 in
    rw (p.1, p.2) c.in_err-follow_next.ensures.truly

pub returns-in_err-follow_next-clause-told : goal.returns-in_err-follow_next-clause-told
returns-in_err-follow_next-clause-told c = λ first.
    let p = err_from_is_err_and c.from_residual.result c.from_residual.ensures.1 in
    rw (p.1, p.2) (c.in_err-follow_next.ensures.told (c.loop.invariant.led first))

pub returns-in_err-follow_next-clause-memory : goal.returns-in_err-follow_next-clause-memory
returns-in_err-follow_next-clause-memory c = λ meant first.
    let p = err_from_is_err_and c.from_residual.result c.from_residual.ensures.1 in
    rw (p.1, p.2) (c.in_err-follow_next.ensures.memory meant (c.loop.invariant.room meant first))
