use Rattle.std.proofs.Common.{inr, arith}
use Rattle.cert_form.proofs.ClaimLaws.{met_claim}
use Rattle.cert_form.proofs.judge.judge_met.Goals as goal

pub judge_unused_word-requires : goal.judge_unused_word-requires
judge_unused_word-requires c = inr c.requires

pub returns-clause-sound : goal.returns-clause-sound
returns-clause-sound c =
    let bytes = c.args.bytes.now in
    met_claim bytes c.args.at (λ i. omega (arith, c.type_inv.bytes i)) c.requires c.in_ok-judge_unused_word.ensures.room
    c.in_ok-judge_unused_word.ensures.none
