use Rattle.cert_form.specs.Spelling.{chain_node}
use Rattle.cert_form.proofs.WriteLaws.{spelled_more}
use Rattle.cert_form.proofs.chain_writing.put_all_chained.Goals as goal

pub loop-n-preserved : goal.loop-n-preserved
loop-n-preserved c =
    spelled_more (chain_node c.args.version) c.args.nodes.now c.loop-n.n-index _ c.args.out.now.items c.loop-n.out.items
    c.put_chained.new.out.items c.loop-n-test.true c.loop-n.invariant c.in_ok-put_chained.ensures
