use Rattle.cert_form.specs.Spelling.{entry}
use Rattle.cert_form.proofs.WriteLaws.{spelled_more, two_parts}
use Rattle.cert_form.proofs.chain_writing.put_claims.Goals as goal

pub loop-e-preserved : goal.loop-e-preserved
loop-e-preserved c =
    let now = c.loop-e.out.items in
    let after = c.put_claim.new.out.items in
    spelled_more entry c.args.entries.now c.loop-e.e-index _ c.args.out.now.items now after c.loop-e-test.true c.loop-e.invariant
    (two_parts now c.put_long.new.out.items after _ _ c.in_ok-put_long.ensures c.in_ok-put_claim.ensures)
