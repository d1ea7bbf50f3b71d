use Rattle.std.proofs.Common.{◌≡◌, length, sym, ◌∙◌, arith}
use Rattle.std.proofs.lemmas.Bool.{eqb-false}
use Rattle.cert_form.specs.Spelling.{SpellsChained}
use Rattle.cert_form.specs.Writing.{AreClaimsWritable, AreClaimsMeant}
use Rattle.cert_form.proofs.WriteLaws.{claims_in_limits, spells_claims}
use Rattle.cert_form.proofs.chain_writing.write_claims.Goals as goal

-- what is written keeps the limits, and is the certificate of what is meant
in_limits : (c : goal.Else-len-gt-MAX_BYTES) → AreClaimsWritable c.args.entries.now c.args.nodes.now
    × (AreClaimsMeant c.args.entries.now c.args.nodes.now
    → SpellsChained 4 c.put_claims_file.new.out.items c.args.entries.now c.args.nodes.now)
in_limits c =
    let ns = c.args.nodes.now in
    claims_in_limits c.put_claims_file.new.out.items c.args.entries.now ns c.in_ok-put_claims_file.ensures
    (omega (arith, c.len.ensures, c.if-len-gt-MAX_BYTES.false))
    (omega (arith, λ (z : length ns ≡ 0). eqb-false (length ns) 0 (sym c.is_empty.ensures ∙ c.if-is_empty.false) z))
    (omega (arith, c.if-nodes-gt-MAX_NODES.false)) (omega (arith, c.if-entries-gt-MAX_ENTRIES.false))

pub returns-clause-kept : goal.returns-clause-kept
returns-clause-kept c = (in_limits c).0

pub returns-clause-written : goal.returns-clause-written
returns-clause-written c = (in_limits c).1

pub returns-clause-read : goal.returns-clause-read
returns-clause-read c = λ meant. spells_claims c.put_claims_file.new.out.items c.args.entries.now c.args.nodes.now ((in_limits c).1 meant)
