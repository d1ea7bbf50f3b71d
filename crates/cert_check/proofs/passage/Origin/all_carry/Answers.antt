use Rattle.std.proofs.Common.{◌≡◌, ◌<◌, true, false, refl, subst, [], ◌∷◌, length}
use Rattle.std.specs.Prelude.{All}
use Rattle.std.proofs.lemmas.List.Elements.{All-head, All-tail}
use Rattle.cert_form.specs.Views.{nodes_of, says}
use Rattle.cert_check.specs.Rules.{Edge}
use Rattle.cert_check.specs.inner.Broken.{CarriesTo}
use Rattle.cert_check.specs.inner.Ways.{edge_list, edge_of}
use Rattle.cert_check.proofs.Elements.{all_one, all_two, all_none}
use Rattle.cert_check.proofs.passage.Origin.all_carry.Goals as goal

pub carries_to-requires : goal.carries_to-requires
carries_to-requires c =
    let P : Edge → Type 0 = λ e. e.to < length (nodes_of c.args.self.now.view.now) in
    All-head P (edge_of c.in-One.way) [] (subst (λ w. All P (edge_list w)) c.in-One.is c.requires)

pub carries_to-requires-in-Two : goal.carries_to-requires-in-Two
carries_to-requires-in-Two c =
    let P : Edge → Type 0 = λ e. e.to < length (nodes_of c.args.self.now.view.now) in
    All-head P (edge_of c.in-Two.first) (edge_of c.in-Two.second ∷ []) (subst (λ w. All P (edge_list w)) c.in-Two.is c.requires)

pub carries_to-requires-in-Two-2 : goal.carries_to-requires-in-Two-2
carries_to-requires-in-Two-2 c =
    let P : Edge → Type 0 = λ e. e.to < length (nodes_of c.args.self.now.view.now) in
    All-head P (edge_of c.in-Two.second) []
    (All-tail P (edge_of c.in-Two.first) (edge_of c.in-Two.second ∷ []) (subst (λ w. All P (edge_list w)) c.in-Two.is c.requires))

pub returns-in-One : goal.returns-in-One
returns-in-One c =
    rw c.in-One.is (all_one (CarriesTo c.args.self.now.profile.now (nodes_of c.args.self.now.view.now) (says c.args.self.now.node.now)) (edge_of c.in-One.way) c.carries_to.result c.carries_to.ensures)

pub returns-then-not-carries_to : goal.returns-then-not-carries_to
returns-then-not-carries_to c =
    rw c.in-Two.is (all_none (CarriesTo c.args.self.now.profile.now (nodes_of c.args.self.now.view.now) (says c.args.self.now.node.now)) (edge_of c.in-Two.first) (edge_of c.in-Two.second ∷ []) false
    (λ t. let e : false ≡ true = t in cc) (λ l. let e : false ≡ true = c.if-not-carries_to.ensures.1 l in cc))

pub returns-else-not-carries_to : goal.returns-else-not-carries_to
returns-else-not-carries_to c =
    rw c.in-Two.is (all_two (CarriesTo c.args.self.now.profile.now (nodes_of c.args.self.now.view.now) (says c.args.self.now.node.now)) (edge_of c.in-Two.first) (edge_of c.in-Two.second)
    c.carries_to-in-Two-2.result (c.if-not-carries_to.ensures.0 refl) c.carries_to-in-Two-2.ensures)
