use Rattle.std.proofs.Common.{refl, sym, ap, ◌∙◌, ◌<◌, ℕ, length, subst, rules}
use Rattle.std.specs.Prelude.{Some}
use Rattle.cert_form.specs.declared.view.CertView.{CertView}
use Rattle.cert_form.specs.Views.{bytes_of, certificate_of, nodes_of, says}
use Rattle.cert_form.specs.Reading.{node_at, node_count}
use Rattle.cert_form.specs.inner.Places.{IsNodeThere, AreNodesThere}
use Rattle.cert_form.proofs.ReadLaws.{length-nodes_in, slice_get-nodes_in}
use Rattle.cert_form.proofs.view.CertView.node.Goals as goal

within : (view : CertView) (i : ℕ) → i < length (nodes_of view) → i < node_count view.bytes.now
unfolding nodes_of
within view i h = subst (λ n. i < n) (length-nodes_in view.bytes.now) h

pub place-requires-clause-within : goal.place-requires-clause-within
place-requires-clause-within c = within c.args.self.now c.args.i c.requires

pub invariant_of-result-clause-there : goal.invariant_of-result-clause-there
invariant_of-result-clause-there c =
    let there : AreNodesThere c.args.self.now.bytes.now c.args.self.now.offsets.items = search rules in
    subst (λ k. IsNodeThere c.args.self.now.bytes.now k) (sym c.place.ensures)
    (there.nodes c.args.i (within c.args.self.now c.args.i c.requires))

pub returns-clause-node : goal.returns-clause-node
unfolding nodes_of says
returns-clause-node c =
    slice_get-nodes_in c.args.self.now.bytes.now c.args.i (within c.args.self.now c.args.i c.requires)
    ∙ ap (λ k. Some (node_at c.args.self.now.bytes.now k)) (sym c.place.ensures)

pub returns-clause-same : goal.returns-clause-same
unfolding bytes_of certificate_of
returns-clause-same c = refl
