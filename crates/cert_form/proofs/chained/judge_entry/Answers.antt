use Rattle.std.proofs.Common.{◌+◌, ◌*◌, arith}
use Rattle.std.proofs.lemmas.Result.{on_ok_weaker, MatchResult-weaker}
use Rattle.cert_form.specs.Faults.{IsBadEntry}
use Rattle.cert_form.proofs.StandLaws.{weaker}
use Rattle.cert_form.proofs.ChainedLaws.{entry_there}
use Rattle.cert_form.proofs.chained.judge_entry.Goals as goal

pub returns-clause-sound : goal.returns-clause-sound
returns-clause-sound c =
    let bytes = c.args.bytes.now in
    on_ok_weaker c.judge_claim.result (entry_there bytes c.args.j (λ i. omega (arith, c.type_inv.bytes i)) (omega arith))
    c.judge_claim.ensures.sound

pub returns-clause-fault : goal.returns-clause-fault
returns-clause-fault c =
    let bytes = c.args.bytes.now in
    let at = 16 + 14 * c.args.j in
    MatchResult-weaker c.judge_claim.result c.judge_claim.ensures.fault (λ _ u. u)
    (λ e f. weaker e bytes (at + 4 + 10) (at + 14) (omega arith) (λ bad. IsBadEntry.claim bad) f)
