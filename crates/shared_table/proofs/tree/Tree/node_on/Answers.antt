use Rattle.std.proofs.Common.{◌≡◌, ◌+◌, ◌∷◌, [], ◌<◌, ◌≤◌, ◌&&◌, length, refl, ap, sym, subst, ◌∙◌, arith}
use Rattle.std.proofs.lemmas.Option.{slice_get_within}
use Rattle.bpf_interp.specs.Fixed.{is_fixed_allow}
use Rattle.kernel_check.specs.Lent.{accepted_insns}
use Rattle.processes.specs.Stores.{size_beside}
use Rattle.shared_table.specs.Tree.{IsKept, IsLeft, Way, filters_on, way_from}
use Rattle.shared_table.proofs.Ways.{few_on, size_cons, way_past}
use Rattle.shared_table.proofs.tree.Tree.node_on.Goals as goal

pub overflow_add-result : goal.overflow_add-result
overflow_add-result c =
    let way : Way = way_from c.args.self.now.nodes.items c.args.place.now.at in
    let old : IsKept c.args.self.now.arch way c.in-Some.node.now = c.args.self.now.tree.kept c.args.place.now.at c.in-Some.node.now c.in-Some.ensures in
    let few : length way ≤ size_beside (filters_on way) = few_on way in
    let depth : c.in-Some.node.now.depth ≡ length way = old.depth in
    let size : c.in-Some.node.now.size ≡ size_beside (filters_on way) = old.size in
    let small : c.in-Some.node.now.size ≤ 32772 = old.small in
    omega arith

pub returns-in-None : goal.returns-in-None
returns-in-None c =
    let nodes = c.args.self.now.nodes.items in
    let program = accepted_insns c.args.program.now in
    let count : c.len.result ≡ length program = rw c.program.ensures.same at c.len.ensures.count in
    let none : way_from nodes c.args.place.now.at ≡ [] = way_past nodes c.args.place.now.at c.in-None.ensures in
    let size : size_beside (filters_on ((length nodes, program) ∷ [])) ≡ length program + 4 + 0 = size_cons (length nodes) program [] in
    let fits : length program + size_beside (filters_on (way_from nodes c.args.place.now.at)) ≤ 32768 = c.requires in
    record {
      program_is = c.in_ok-copy.ensures;
      before = λ p e. absurd (cc);
      way = sym none;
      jumps = λ p e. absurd (cc);
      kept = rw none (record {
        depth = refl;
        size = omega arith;
        small = omega arith;
        allowed = λ nr h. c.allowed.ensures nr h;
      });
    }

pub returns-in-Some : goal.returns-in-Some
returns-in-Some c =
    let nodes = c.args.self.now.nodes.items in
    let at = c.args.place.now.at in
    let below = c.in-Some.node.now in
    let program = accepted_insns c.args.program.now in
    let count : c.len.result ≡ length program = rw c.program.ensures.same at c.len.ensures.count in
    let old : IsKept c.args.self.now.arch (way_from nodes at) below = c.args.self.now.tree.kept at below c.in-Some.ensures in
    let within : at < length nodes = slice_get_within nodes at below c.in-Some.ensures in
    let size : size_beside (filters_on ((length nodes, program) ∷ way_from nodes at))
    ≡ length program + 4 + size_beside (filters_on (way_from nodes at)) =
    size_cons (length nodes) program (way_from nodes at) in
    let fits : length program + size_beside (filters_on (way_from nodes at)) ≤ 32768 = c.requires in
    let before : below.size ≡ size_beside (filters_on (way_from nodes at)) = old.size in
    let deep : below.depth ≡ length (way_from nodes at) = old.depth in
    record {
      program_is = c.in_ok-copy.ensures;
      before = λ p e. let same : at ≡ p = cc in omega arith;
      way = refl;
      jumps = λ p e.
          let same : c.jump_from.result ≡ p = cc in
          subst (λ k. (k < length nodes) × IsLeft (way_from nodes k) (way_from nodes at)) same (c.jump_from.ensures.within, c.jump_from.ensures.left);
      kept = record {
        depth = omega arith;
        size = omega arith;
        small = omega arith;
        allowed = λ nr h. c.allowed-in-Some.ensures nr h ∙ ap (λ b. is_fixed_allow program c.args.self.now.arch nr && b) (old.allowed nr h);
      };
    }
