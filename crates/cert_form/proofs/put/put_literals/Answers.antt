use Rattle.cert_form.specs.Spelling.{literal}
use Rattle.cert_form.proofs.WriteLaws.{spelled_more}
use Rattle.cert_form.proofs.put.put_literals.Goals as goal

pub loop-l-preserved : goal.loop-l-preserved
loop-l-preserved c =
    spelled_more literal c.args.lits.now c.loop-l.l-index _ c.args.out.now.items c.loop-l.out.items
    c.put_literal.new.out.items c.loop-l-test.true c.loop-l.invariant c.in_ok-put_literal.ensures
