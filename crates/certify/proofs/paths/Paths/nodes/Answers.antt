use Rattle.std.proofs.Common.{rules, ◌≡◌, ◌<◌, ◌^◌, ◌++◌, ◌∷◌, [], ◌∙◌, ap, subst, sym, length, arith, min}
use Rattle.std.proofs.lemmas.List.{length-append}
use Rattle.std.proofs.lemmas.Option.{slice_get_within}
use Rattle.std.proofs.lemmas.List.Elements.{All-push}
use Rattle.std.proofs.lemmas.Slice.Zip.{zip_end, zip_turn}
use Rattle.std.specs.Prelude.{All}
use Rattle.cert_form.specs.declared.node.ChainNode.{ChainNode}
use Rattle.certify.specs.inner.Places.{chain_node_of}
use Rattle.certify.proofs.ListedLaws.{first_more}
use Rattle.certify.proofs.paths.Paths.nodes.Goals as goal

pub loop-place-preserved : goal.loop-place-preserved
loop-place-preserved c =
    let places = c.args.self.now.places.items in
    let kinds = c.args.self.now.kinds.items in
    let nodes = c.loop-place.nodes.items in
    let at = c.in-Some.place.now in
    let does = c.in-Some.kind.now in
    let turn = zip_turn places kinds c.loop-place.yielded c.into_iter-place-iterator.result c.loop-place.place-iterator c.next.new.self
    c.next.result (search rules) (search rules) c.loop-place.yielded_by (c.in-Some.place, c.in-Some.kind) c.in-Some.is
    c.next.ensures.steps in
    let grown : c.push.new.self.items ≡ nodes ++ chain_node_of at does ∷ [] =
    c.in_ok-push.ensures.items ∙ ap (λ x. nodes ++ x ∷ []) c.node.ensures.node in
    let low : at.pc < 2 ^ 16 = subst (λ (x : ChainNode). x.pc < 2 ^ 16) c.node.ensures.node c.node.ensures.small in
    let long = c.loop-place.invariant.many in
    let one = length-append c.loop-place.yielded ((c.in-Some.place, c.in-Some.kind) ∷ []) in
    record {
      many = omega (arith, long, one, ap length grown, length-append nodes (chain_node_of at does ∷ []));
      each = first_more places kinds nodes c.push.new.self.items (length c.loop-place.yielded) _ at does long one grown turn.2 turn.3
          c.loop-place.invariant.each;
      small = subst (All (λ (node : ChainNode). node.pc < 2 ^ 16)) (sym grown)
          (All-push (λ (node : ChainNode). node.pc < 2 ^ 16) nodes (chain_node_of at does) c.loop-place.invariant.small low);
    }

pub returns-clause-each : goal.returns-clause-each
returns-clause-each c =
    let places = c.args.self.now.places.items in
    let kinds = c.args.self.now.kinds.items in
    let end : length c.loop-place.yielded ≡ min (length places) (length kinds) =
    zip_end places kinds c.loop-place.yielded c.into_iter-place-iterator.result c.loop-place.place-iterator c.next.new.self c.next.result
    (search rules) (search rules) c.loop-place.yielded_by c.in-None.is c.next.ensures.steps in
    let long = c.loop-place.invariant.many in
    record {
      many = long ∙ end;
      each = λ k place kind there told.
          c.loop-place.invariant.each k place kind
          (omega (arith, end, slice_get_within places k place there, slice_get_within kinds k kind told)) there told;
    }
