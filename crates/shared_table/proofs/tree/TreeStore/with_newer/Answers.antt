use Rattle.std.proofs.Common.{◌≡◌, ◌+◌, ◌-◌, ◌∷◌, [], ◌++◌, ◌<◌, ◌≤◌, ◌^◌, get_or, length, vec_len, subst, ap, sym, ◌∙◌, arith}
use Rattle.kernel_check.specs.Lent.{accepted_insns}
use Rattle.std.specs.Prelude.{is_ok}
use Rattle.processes.specs.Stores.{program_filter}
use Rattle.processes.proofs.Changes.{either}
use Rattle.shared_table.specs.Tree.{IsTree, filters_on, way_from}
use Rattle.shared_table.specs.inner.On.{IsOn}
use Rattle.shared_table.proofs.Ways.{grown, valid, way_before, way_of_new}
use Rattle.shared_table.proofs.tree.TreeStore.with_newer.Goals as goal

pub invariant_of-self : goal.invariant_of-self
invariant_of-self c =
    let arch = c.args.self.now.arch in
    let nodes = c.args.self.now.nodes.items in
    let node = c.in_ok-node.node in
    let tree : IsTree arch nodes = c.args.self.now.tree in
    let some : 1 ≤ length nodes = tree.some in
    let room : length nodes < 2 ^ 32 = omega (arith, c.requires.numbers) in
    let more : IsTree arch (nodes
    ++ node ∷ []) = grown arch c.args.handle.now.at (accepted_insns c.args.program.now) nodes node tree room c.in_ok-node.ensures in
    record {
      tree = subst (IsTree arch) (sym c.push.ensures.items) (either (IsTree arch) (is_ok c.push.result) (nodes
          ++ node ∷ []) nodes more tree);
    }

pub returns-clause-handles : goal.returns-clause-handles
returns-clause-handles c = λ k d h.
    let nodes = c.args.self.now.nodes.items in
    let at : (get_or c.in_ok-places.places.items k d).at ≡ vec_len c.args.self.now.nodes = c.in_ok-places.ensures.same k d h
    ∙ c.len-at.ensures in
    let place : (get_or c.in_ok-places.places.items k d).at ≡ length nodes = omega (arith, at) in
    let more : c.push.new.self.items ≡ nodes ++ c.in_ok-node.node ∷ [] = c.in_ok-push.ensures.items in
    let on : IsOn c.args.self.now.arch nodes c.args.handle.now.at (accepted_insns c.args.program.now) c.in_ok-node.node = c.in_ok-node.ensures in
    let tree : IsTree c.args.self.now.arch nodes = c.args.self.now.tree in
    let some : 1 ≤ length nodes = tree.some in
    let next : length nodes ≡ length nodes - 1 + 1 = omega arith in
    let program = accepted_insns c.args.program.now in
    rw more
    (ap (λ i. filters_on (way_from (nodes ++ c.in_ok-node.node ∷ []) i)) place
    ∙ ap filters_on (way_of_new c.args.self.now.arch c.args.handle.now.at program nodes c.in_ok-node.node on)
    ∙ ap (λ l. program_filter l program ∷ filters_on (way_from nodes c.args.handle.now.at)) next)

pub returns-clause-others : goal.returns-clause-others
returns-clause-others c = λ other there.
    let nodes = c.args.self.now.nodes.items in
    let more : c.push.new.self.items ≡ nodes ++ c.in_ok-node.node ∷ [] = c.in_ok-push.ensures.items in
    rw more (ap filters_on (way_before nodes c.in_ok-node.node other.at (valid nodes other.at there)))
