use Rattle.std.proofs.Common.{◌≡◌, length, ap, sym, ◌∙◌, arith}
use Rattle.std.proofs.lemmas.Bool.{eqb-false}
use Rattle.cert_form.specs.Spelling.{chained, SpellsChained}
use Rattle.cert_form.specs.Writing.{AreChainsWritable, AreMeant, all_known, version_for}
use Rattle.cert_form.proofs.WriteLaws.{chained_in_limits, spells_chained}
use Rattle.cert_form.proofs.chain_writing.write_chained.Goals as goal

pub returns-clause-spelled : goal.returns-clause-spelled
returns-clause-spelled c =
    c.in_ok-put_file.ensures ∙ ap (λ v. chained v (all_known c.args.entries.now) c.args.nodes.now) c.version_of-version.ensures

-- what is written keeps the limits, and is the certificate of what is meant
in_limits : (c : goal.Else-len-gt-MAX_BYTES) → AreChainsWritable c.args.entries.now c.args.nodes.now
    × (AreMeant c.args.entries.now c.args.nodes.now
    → SpellsChained (version_for c.args.nodes.now) c.put_file.new.out.items (all_known c.args.entries.now) c.args.nodes.now)
in_limits c =
    let ns = c.args.nodes.now in
    chained_in_limits c.put_file.new.out.items c.args.entries.now ns (returns-clause-spelled c)
    (omega (arith, c.len.ensures, c.if-len-gt-MAX_BYTES.false))
    (omega (arith, λ (z : length ns ≡ 0). eqb-false (length ns) 0 (sym c.is_empty.ensures ∙ c.if-is_empty.false) z))
    (omega (arith, c.if-nodes-gt-MAX_NODES.false)) (omega (arith, c.if-entries-gt-MAX_ENTRIES.false))

pub returns-clause-kept : goal.returns-clause-kept
returns-clause-kept c = (in_limits c).0

pub returns-clause-written : goal.returns-clause-written
returns-clause-written c = (in_limits c).1

pub returns-clause-read : goal.returns-clause-read
returns-clause-read c = λ meant. spells_chained c.put_file.new.out.items c.args.entries.now c.args.nodes.now ((in_limits c).1 meant)
