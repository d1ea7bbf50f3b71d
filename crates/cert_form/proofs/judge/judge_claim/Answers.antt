use Rattle.std.proofs.Common.{◌≡◌, true, false}
use Rattle.std.proofs.lemmas.Result.{on_ok_weaker}
use Rattle.cert_form.specs.Faults.{SaysMet, SaysOut}
use Rattle.cert_form.proofs.ClaimLaws.{literal_claim}
use Rattle.cert_form.proofs.judge.judge_claim.Goals as goal

pub returns-clause-sound : goal.returns-clause-sound
returns-clause-sound c =
    let no_out : SaysOut c.args.bytes.now c.args.at → ⊥ = λ out. let e : false ≡ true = c.if-has_tag.ensures.1 out in cc in
    let no_met : SaysMet c.args.bytes.now c.args.at → ⊥ = λ met. let e : false ≡ true = c.if-has_tag-2.ensures.1 met in cc in
    on_ok_weaker c.judge_literal.result (literal_claim c.args.bytes.now c.args.at no_out no_met) c.judge_literal.ensures.sound
