use Rattle.std.proofs.Common.{◌≡◌, length, false, true, refl, arith}
use Rattle.cert_form.specs.Views.{nodes_of, says}
use Rattle.cert_work.proofs.WorkLaws.{all_within, one_more, past}
use Rattle.cert_work.proofs.nodes.are_within.Goals as goal

pub loop-i-init : goal.loop-i-init
loop-i-init c = (0, refl, refl)

pub node-node-requires : goal.node-node-requires
node-node-requires c = omega (arith, c.len-i-end.ensures, c.loop-i-test.true)

pub returns-in_default : goal.returns-in_default
returns-in_default c =
    let rules = c.args.rules.now in
    let ns = nodes_of c.args.view.now in
    let so_far = c.loop-i.invariant in
    let short = c.in_default.ensures in (
      λ t. absurd (let e : false ≡ true = t in cc),
      λ within. absurd (past rules ns c.loop-i.i so_far.0 short.0 c.loop-i.left (says c.node-node.result) so_far.1 c.node-node.ensures.node short.1 so_far.2 short.2
          (omega (arith, c.len-i-end.ensures, c.loop-i-test.true)) within),
    )

pub loop-i-preserved : goal.loop-i-preserved
loop-i-preserved c =
    let so_far = c.loop-i.invariant in
    let paid = c.in-Some.ensures in
    one_more c.args.rules.now (nodes_of c.args.view.now) c.loop-i.i so_far.0 paid.0 c.loop-i.left c.in-Some.rest (says c.node-node.result) so_far.1
    c.node-node.ensures.node paid.1 so_far.2 paid.2

pub returns : goal.returns
returns c =
    let so_far = c.loop-i.invariant in
    let size : c.loop-i.i ≡ length (nodes_of c.args.view.now) = omega (arith, c.len-i-end.ensures, c.loop-i-test.false) in
    (λ _. all_within c.args.rules.now (nodes_of c.args.view.now) c.loop-i.i so_far.0 c.loop-i.left so_far.1 so_far.2 size, λ _. refl)
