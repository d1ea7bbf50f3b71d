use Rattle.cert_form.specs.declared.node.Claim.TheVariants.{Knows}
use Rattle.cert_form.specs.Spelling.{entry}
use Rattle.cert_form.proofs.WriteLaws.{mapped_more, two_parts}
use Rattle.cert_form.proofs.chain_writing.put_entries.Goals as goal

pub loop-e-preserved : goal.loop-e-preserved
loop-e-preserved c =
    let now = c.loop-e.out.items in
    let after = c.put_literal.new.out.items in
    mapped_more (λ e. (e.0, Knows e.1)) entry c.args.entries.now c.loop-e.e-index _ c.args.out.now.items now after c.loop-e-test.true
    c.loop-e.invariant (two_parts now c.put_long.new.out.items after _ _ c.in_ok-put_long.ensures c.in_ok-put_literal.ensures)
