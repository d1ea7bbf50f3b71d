use Rattle.std.proofs.Common.{subst, arith}
use Rattle.std.specs.Prelude.{slice_index}
use Rattle.cert_form.specs.inner.Standing.{IsTailThere}
use Rattle.cert_form.proofs.ListedLaws.{listed_there}
use Rattle.cert_form.proofs.listed.judge_rest.Goals as goal

pub returns-clause-sound : goal.returns-clause-sound
returns-clause-sound c =
    let bytes = c.args.bytes.now in
    listed_there bytes c.args.at
    (λ i. omega
    (arith, c.type_inv.bytes i)) c.requires.form c.requires.top c.in_ok-judge_value.ensures.sound c.in_ok-judge_value-2.ensures.sound
    c.in_ok-judge_own.ensures.room c.in_ok-judge_own.ensures.sound
    (subst (λ place. IsTailThere bytes (slice_index bytes c.args.at) place)
    (omega (arith, c.read_short.ensures)) c.in_ok-judge_tail.ensures.sound)
