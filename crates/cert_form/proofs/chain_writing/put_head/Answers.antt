use Rattle.std.proofs.Common.{◌≡◌, ◌++◌, ℕ, List, ap, ◌∙◌}
use Rattle.std.proofs.lemmas.Result.{on_ok_weaker}
use Rattle.byteorder.specs.Endian.{little_bytes}
use Rattle.cert_form.specs.Spelling.{magic}
use Rattle.cert_form.proofs.chain_writing.put_head.Goals as goal

pub returns : goal.returns
returns c =
    let h1 : c.extend_from_slice.new.self.items ≡ magic =
    c.in_ok-extend_from_slice.ensures.items ∙ ap (λ (t : List ℕ). t ++ magic) c.requires.empty in
    let h2 = c.in_ok-put_long.ensures ∙ ap (λ (t : List ℕ). t ++ little_bytes 4 c.args.version) h1 in
    let h3 = c.in_ok-put_long-2.ensures ∙ ap (λ (t : List ℕ). t ++ little_bytes 4 c.args.nodes) h2 in
    on_ok_weaker c.put_long-3.result (λ all. all ∙ ap (λ (t : List ℕ). t ++ little_bytes 4 c.args.entries) h3) c.put_long-3.ensures
