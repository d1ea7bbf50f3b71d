use Rattle.cert_form.specs.Spelling.{if_stated}
use Rattle.cert_form.proofs.WriteLaws.{spelled_more}
use Rattle.cert_form.proofs.put.put_all_stated.Goals as goal

pub loop-v-preserved : goal.loop-v-preserved
loop-v-preserved c =
    spelled_more if_stated c.args.scratch.now c.loop-v.v-index _ c.args.out.now.items c.loop-v.out.items
    c.put_stated.new.out.items c.loop-v-test.true c.loop-v.invariant c.in_ok-put_stated.ensures
