use Rattle.std.proofs.Common.{◌+◌, ◌*◌, ◌++◌, ℕ, List, length, ap, ◌∙◌}
use Rattle.std.specs.List.{flat_map}
use Rattle.std.proofs.lemmas.Result.{on_ok_weaker}
use Rattle.cert_form.specs.Spelling.{entry, offsets, chain_node}
use Rattle.cert_form.proofs.chain_writing.put_claims_file.Goals as goal

pub returns : goal.returns
returns c =
    let es = c.args.entries.now in
    let ns = c.args.nodes.now in
    let h1 = c.in_ok-put_head.ensures in
    let h2 = c.in_ok-put_claims.ensures ∙ ap (λ (t : List ℕ). t ++ flat_map entry es) h1 in
    let h3 = c.in_ok-put_offsets.ensures ∙ ap (λ (t : List ℕ). t ++ offsets 4 (16 + 14 * length es + 4 * length ns) ns) h2 in
    on_ok_weaker c.put_all_chained.result (λ all. all ∙ ap (λ (t : List ℕ). t ++ flat_map (chain_node 4) ns) h3)
    c.put_all_chained.ensures
