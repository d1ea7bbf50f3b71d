use Rattle.std.proofs.Common.{◌+◌, ◌*◌, ◌++◌, ℕ, List, length, ap, sym, ◌∙◌}
use Rattle.std.specs.List.{flat_map}
use Rattle.std.proofs.lemmas.Result.{on_ok_weaker}
use Rattle.byteorder.specs.Endian.{little_bytes}
use Rattle.cert_form.specs.Spelling.{magic, entry, offsets, chain_node}
use Rattle.cert_form.specs.Writing.{all_known}
use Rattle.cert_form.proofs.KnownLaws.{length-known}
use Rattle.cert_form.proofs.chain_writing.put_file.Goals as goal

pub returns : goal.returns
returns c =
    let es = c.args.entries.now in
    let ns = c.args.nodes.now in
    let version : ℕ = c.args.version in
    let written : ℕ → List ℕ = λ count. magic ++ little_bytes 4 version ++ little_bytes 4 (length ns) ++ little_bytes 4 count
    ++ flat_map entry (all_known es) ++ offsets version (16 + 14 * count + 4 * length ns) ns ++ flat_map (chain_node version) ns in
    let h1 = c.in_ok-put_head.ensures in
    let h2 = c.in_ok-put_entries.ensures ∙ ap (λ (t : List ℕ). t ++ flat_map entry (all_known es)) h1 in
    let h3 = c.in_ok-put_offsets.ensures ∙ ap (λ (t : List ℕ). t ++ offsets version (16 + 14 * length es + 4 * length ns) ns) h2 in
    on_ok_weaker c.put_all_chained.result
    (λ all. all ∙ (ap (λ (t : List ℕ). t ++ flat_map (chain_node version) ns) h3 ∙ ap written (sym (length-known es))))
    c.put_all_chained.ensures
