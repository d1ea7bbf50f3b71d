use Rattle.std.proofs.Common.{◌≡◌, ◌++◌, ℕ, List, All, length, ap, sym, ◌∙◌, arith}
use Rattle.std.specs.List.{flat_map}
use Rattle.std.proofs.lemmas.Bool.{eqb-false}
use Rattle.std.proofs.lemmas.List.{length-map}
use Rattle.byteorder.specs.Endian.{little_bytes}
use Rattle.cert_form.specs.Nodes.{PlainNode}
use Rattle.cert_form.specs.Spelling.{magic, node, SpellsListed}
use Rattle.cert_form.specs.Writing.{plain, plains, AreWritable, IsMeant}
use Rattle.cert_form.proofs.WriteLaws.{listed_in_limits}
use Rattle.cert_form.proofs.writing.write.Goals as goal

pub returns-clause-spelled : goal.returns-clause-spelled
returns-clause-spelled c =
    let ns : List PlainNode = plains c.args.nodes.now in
    let count : length ns ≡ length c.args.nodes.now = length-map c.args.nodes.now plain in
    let first : c.extend_from_slice.new.self.items ≡ magic =
    c.in_ok-extend_from_slice.ensures.items ∙ ap (λ (t : List ℕ). t ++ magic) c.new-out.ensures.items in
    let second = c.in_ok-put_long.ensures ∙ ap (λ (t : List ℕ). t ++ little_bytes 4 1) first in
    let third = c.in_ok-put_long-2.ensures ∙ ap (λ (t : List ℕ). t ++ little_bytes 4 (length c.args.nodes.now)) second in
    c.in_ok-put_nodes.ensures.written ∙ (ap (λ (t : List ℕ). t ++ flat_map node ns) third
    ∙ ap (λ k. magic ++ little_bytes 4 1 ++ little_bytes 4 k ++ flat_map node ns) (sym count))

-- what is written keeps the limits, and is the certificate of what is meant
in_limits : (c : goal.Else-len-gt-MAX_BYTES)
    → AreWritable (plains c.args.nodes.now)
    × (All IsMeant (plains c.args.nodes.now) → SpellsListed c.put_nodes.new.out.items (plains c.args.nodes.now))
in_limits c =
    let ns = c.args.nodes.now in
    let count : length (plains ns) ≡ length ns = length-map ns plain in
    listed_in_limits c.put_nodes.new.out.items (plains ns) (returns-clause-spelled c)
    (omega (arith, c.len.ensures, c.if-len-gt-MAX_BYTES.false))
    (omega (arith, count, λ (z : length ns ≡ 0). eqb-false (length ns) 0 (sym c.is_empty.ensures ∙ c.if-is_empty.false) z))
    (omega (arith, count, c.if-nodes-gt-MAX_NODES.false)) c.in_ok-put_nodes.ensures.plain

pub returns-clause-kept : goal.returns-clause-kept
returns-clause-kept c = (in_limits c).0

pub returns-clause-written : goal.returns-clause-written
returns-clause-written c = (in_limits c).1
