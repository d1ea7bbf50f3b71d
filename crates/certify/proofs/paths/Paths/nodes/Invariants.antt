use Rattle.std.proofs.Common.{◌≡◌, ℕ, ◌<◌, ◌^◌, length, Some}
use Rattle.std.specs.Prelude.{slice_get, All}
use Rattle.cert_form.specs.declared.node.ChainNode.{ChainNode}
use Rattle.cert_form.specs.declared.node.Kind.{Kind}
use Rattle.certify.specs.declared.place.Place.{Place}
use Rattle.certify.specs.inner.Places.{chain_node_of}
use Rattle.certify.proofs.paths.Paths.nodes.Given as goal

abbrev pub invariant-loop-place : goal.invariant-loop-place
invariant-loop-place l = record {
  many : length l.nodes.items ≡ length l.yielded;
  each : (k : ℕ) (place : Place) (kind : Kind) → k < length l.yielded → slice_get l.self.places.items k ≡ Some place
      → slice_get l.self.kinds.items k ≡ Some kind → slice_get l.nodes.items k ≡ Some (chain_node_of place kind);
  small : All (λ (node : ChainNode). node.pc < 2 ^ 16) l.nodes.items;
}
