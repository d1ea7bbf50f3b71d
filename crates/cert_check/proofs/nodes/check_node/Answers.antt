use Rattle.std.proofs.Common.{◌≡◌, true, false, refl, sym, subst}
use Rattle.std.specs.Prelude.{slice_get, Some, None, Ok, Err}
use Rattle.kernel_check.specs.Lent.{accepted_insns}
use Rattle.cert_form.specs.Views.{nodes_of, says}
use Rattle.cert_check.specs.declared.fault.CheckError.TheVariants.{Edge, Entail, Return, Split}
use Rattle.cert_check.specs.Rules.{edges}
use Rattle.cert_check.specs.inner.Ways.{edge_list}
use Rattle.cert_check.proofs.NodeLaws.{found_at, no_insn, no_edges, return_from, return_back}
use Rattle.cert_check.proofs.NodeLaws.{edge_from, edge_back, there, entail_from, entail_back}
use Rattle.cert_check.proofs.nodes.check_node.Goals as goal

pub returns-in_default-clause-found : goal.returns-in_default-clause-found
returns-in_default-clause-found c =
    let policy = c.args.profile.now in
    let p = accepted_insns c.args.accepted.now in
    let ns = nodes_of c.args.view.now in
    let i = c.args.i in
    let n = says c.node-node.result in
    let past : slice_get p n.pc ≡ None = subst (λ k. slice_get p k ≡ None) c.pc.ensures c.in_default.ensures in
    found_at policy p ns i n (Err (Edge i)) c.node-node.ensures.node (refl, no_insn p ns i n past)

pub returns-in_default-ways_of-clause-found : goal.returns-in_default-ways_of-clause-found
returns-in_default-ways_of-clause-found c =
    let policy = c.args.profile.now in
    let p = accepted_insns c.args.accepted.now in
    let ns = nodes_of c.args.view.now in
    let i = c.args.i in
    let n = says c.node-node.result in
    let insn = c.in-Some.insn in
    let at : slice_get p n.pc ≡ Some insn = subst (λ k. slice_get p k ≡ Some insn) c.pc.ensures c.in-Some.ensures.0 in
    found_at policy p ns i n (Err (Edge i)) c.node-node.ensures.node (refl, no_edges policy p ns i n insn at (sym c.in_default-ways_of.ensures))

pub returns-then-not-all_lead-clause-found : goal.returns-then-not-all_lead-clause-found
returns-then-not-all_lead-clause-found c =
    let policy = c.args.profile.now in
    let p = accepted_insns c.args.accepted.now in
    let ns = nodes_of c.args.view.now in
    let i = c.args.i in
    let n = says c.node-node.result in
    let insn = c.in-Some.insn in
    let at : slice_get p n.pc ≡ Some insn = subst (λ k. slice_get p k ≡ Some insn) c.pc.ensures c.in-Some.ensures.0 in
    let out = edge_list c.in-Some-ways_of.ways in
    let leave : edges n insn ≡ Some out = sym c.in-Some-ways_of.ensures in
    found_at policy p ns i n (Err (Edge i)) c.node-node.ensures.node
    (refl, λ rule. let e : false ≡ true = c.if-not-all_lead.ensures.1 (edge_back policy p ns i n insn at out leave rule) in cc)

pub returns-then-not-split_is_kept-clause-found : goal.returns-then-not-split_is_kept-clause-found
returns-then-not-split_is_kept-clause-found c =
    let policy = c.args.profile.now in
    let p = accepted_insns c.args.accepted.now in
    let ns = nodes_of c.args.view.now in
    let i = c.args.i in
    let n = says c.node-node.result in
    let insn = c.in-Some.insn in
    let at : slice_get p n.pc ≡ Some insn = subst (λ k. slice_get p k ≡ Some insn) c.pc.ensures c.in-Some.ensures.0 in
    let out = edge_list c.in-Some-ways_of.ways in
    let leave : edges n insn ≡ Some out = sym c.in-Some-ways_of.ensures in
    let lead = c.if-not-all_lead.ensures.0 refl in
    let edge = edge_from policy p ns i n insn at out leave lead in
    found_at policy p ns i n (Err (Split i)) c.node-node.ensures.node
    (refl, edge, λ rule. let e : false ≡ true = c.if-not-split_is_kept.ensures.1 rule in cc)

pub entail_is_kept-requires : goal.entail_is_kept-requires
entail_is_kept-requires c =
    let policy = c.args.profile.now in
    let p = accepted_insns c.args.accepted.now in
    let ns = nodes_of c.args.view.now in
    let i = c.args.i in
    let n = says c.node-node.result in
    let insn = c.in-Some.insn in
    let at : slice_get p n.pc ≡ Some insn = subst (λ k. slice_get p k ≡ Some insn) c.pc.ensures c.in-Some.ensures.0 in
    let out = edge_list c.in-Some-ways_of.ways in
    let leave : edges n insn ≡ Some out = sym c.in-Some-ways_of.ensures in
    there policy p ns i n insn at out leave (c.if-not-all_lead.ensures.0 refl)

pub returns-then-not-entail_is_kept-clause-found : goal.returns-then-not-entail_is_kept-clause-found
returns-then-not-entail_is_kept-clause-found c =
    let policy = c.args.profile.now in
    let p = accepted_insns c.args.accepted.now in
    let ns = nodes_of c.args.view.now in
    let i = c.args.i in
    let n = says c.node-node.result in
    let insn = c.in-Some.insn in
    let at : slice_get p n.pc ≡ Some insn = subst (λ k. slice_get p k ≡ Some insn) c.pc.ensures c.in-Some.ensures.0 in
    let out = edge_list c.in-Some-ways_of.ways in
    let leave : edges n insn ≡ Some out = sym c.in-Some-ways_of.ensures in
    let lead = c.if-not-all_lead.ensures.0 refl in
    let edge = edge_from policy p ns i n insn at out leave lead in
    let split = c.if-not-split_is_kept.ensures.0 refl in
    found_at policy p ns i n (Err (Entail i)) c.node-node.ensures.node (
      refl,
      edge,
      split,
      λ rule. let e : false
          ≡ true = c.if-not-entail_is_kept.ensures.1 (entail_back policy p ns i n insn at out leave rule) in cc,
    )

pub returns-then-not-return_is_kept-clause-found : goal.returns-then-not-return_is_kept-clause-found
returns-then-not-return_is_kept-clause-found c =
    let policy = c.args.profile.now in
    let p = accepted_insns c.args.accepted.now in
    let ns = nodes_of c.args.view.now in
    let i = c.args.i in
    let n = says c.node-node.result in
    let insn = c.in-Some.insn in
    let at : slice_get p n.pc ≡ Some insn = subst (λ k. slice_get p k ≡ Some insn) c.pc.ensures c.in-Some.ensures.0 in
    let out = edge_list c.in-Some-ways_of.ways in
    let leave : edges n insn ≡ Some out = sym c.in-Some-ways_of.ensures in
    let lead = c.if-not-all_lead.ensures.0 refl in
    let edge = edge_from policy p ns i n insn at out leave lead in
    let split = c.if-not-split_is_kept.ensures.0 refl in
    let entail = entail_from policy p ns i n insn at out leave (c.if-not-entail_is_kept.ensures.0 refl) in
    found_at policy p ns i n (Err (Return i)) c.node-node.ensures.node (
      refl,
      edge,
      split,
      entail,
      λ rule. let e : false
          ≡ true = c.if-not-return_is_kept.ensures.answer.1 (return_back policy p ns i n insn at rule) in cc,
    )

pub returns-clause-found : goal.returns-clause-found
returns-clause-found c =
    let policy = c.args.profile.now in
    let p = accepted_insns c.args.accepted.now in
    let ns = nodes_of c.args.view.now in
    let i = c.args.i in
    let n = says c.node-node.result in
    let insn = c.in-Some.insn in
    let at : slice_get p n.pc ≡ Some insn = subst (λ k. slice_get p k ≡ Some insn) c.pc.ensures c.in-Some.ensures.0 in
    let out = edge_list c.in-Some-ways_of.ways in
    let leave : edges n insn ≡ Some out = sym c.in-Some-ways_of.ensures in
    let lead = c.if-not-all_lead.ensures.0 refl in
    let edge = edge_from policy p ns i n insn at out leave lead in
    let split = c.if-not-split_is_kept.ensures.0 refl in
    let entail = entail_from policy p ns i n insn at out leave (c.if-not-entail_is_kept.ensures.0 refl) in
    found_at policy p ns i n (Ok tt) c.node-node.ensures.node
    (record {
      edge = edge;
      split = split;
      entail = entail;
      return = return_from policy p ns i n insn at (c.if-not-return_is_kept.ensures.answer.0 refl);
    })
