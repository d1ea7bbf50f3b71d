use Rattle.std.proofs.Common.{refl, rules, arith}
use Rattle.std.proofs.lemmas.Option.{slice_get_within}
use Rattle.kernel_check.specs.Lent.{accepted_insns}
use Rattle.cert_form.specs.Views.{nodes_of}
use Rattle.cert_check.specs.inner.Broken.{IsFound}
use Rattle.cert_check.proofs.NodeLaws.{found_first, keep_one_more}
use Rattle.cert_check.proofs.nodes.check_nodes.Goals as goal

pub returns-in_err-check_node : goal.returns-in_err-check_node
returns-in_err-check_node c =
    let cause : IsFound c.args.profile.now (accepted_insns c.args.accepted.now) (nodes_of c.args.view.now) c.in_err-check_node.field-0.0 =
    found_first c.args.profile.now (accepted_insns c.args.accepted.now) (nodes_of c.args.view.now) c.loop-i.i c.in_err-check_node.field-0.0
    (c.if-not-root_is_kept.ensures.0 refl) (let size = c.len-i-end.ensures in
    omega (arith, size, c.loop-i-test.true)) c.loop-i.invariant.before c.in_err-check_node.ensures.found in
    search (rules, cause)

pub loop-i-preserved : goal.loop-i-preserved
loop-i-preserved c = record {
  before = keep_one_more c.args.profile.now (accepted_insns c.args.accepted.now) (nodes_of c.args.view.now) c.loop-i.i c.loop-i.invariant.before
      c.in_ok-check_node.ensures.found;
  agreed = c.check_node.ensures.kept;
}

pub returns : goal.returns
returns c =
    let size = c.len-i-end.ensures in
    record {
      root = c.if-not-root_is_kept.ensures.0 refl;
      each = λ j m at. c.loop-i.invariant.before j m (omega (arith, size, slice_get_within (nodes_of c.args.view.now) j m at)) at;
    }
