use Rattle.std.proofs.Common.{arith, ◌-◌}
use Rattle.cert_form.proofs.ReadLaws.{none_at_0, none_above, claim_left}
use Rattle.std.proofs.Common.{reverse}
use Rattle.cert_form.specs.Reading.{entries_of}
use Rattle.cert_form.proofs.NumberLaws.{no_number, none_at_zero, number_left}
use Rattle.cert_form.proofs.chain.next_claim.Goals as goal

pub returns-then-at-eq0-clause-more : goal.returns-then-at-eq0-clause-more
returns-then-at-eq0-clause-more c = rw c.if-at-eq0.true (none_at_0 c.args.bytes.now)

pub returns-then-at-read_long-clause-more : goal.returns-then-at-read_long-clause-more
returns-then-at-read_long-clause-more c = none_above c.args.bytes.now c.args.at (omega (arith, c.read_long.ensures, c.if-at-read_long.true))

pub returns-clause-more : goal.returns-clause-more
returns-clause-more c =
    rw (c.read_claim-claim.ensures, c.read_long-2.ensures)
    (claim_left c.args.bytes.now c.args.at c.if-at-eq0.false (omega (arith, c.read_long.ensures, c.if-at-read_long.false))
    (c.requires.head.earlier c.requires.form (c.args.at - 1)
    (omega (arith, c.read_long.ensures, c.if-at-read_long.false, c.if-at-eq0.false))))

pub returns-then-at-eq0-clause-numbers : goal.returns-then-at-eq0-clause-numbers
returns-then-at-eq0-clause-numbers c = rw c.if-at-eq0.true (none_at_zero (reverse (entries_of c.args.bytes.now)))

pub returns-then-at-read_long-clause-numbers : goal.returns-then-at-read_long-clause-numbers
returns-then-at-read_long-clause-numbers c = no_number c.args.bytes.now c.args.at (omega (arith, c.read_long.ensures, c.if-at-read_long.true))

pub returns-clause-numbers : goal.returns-clause-numbers
returns-clause-numbers c =
    rw c.read_long-2.ensures
    (number_left c.args.bytes.now c.args.at c.if-at-eq0.false (omega (arith, c.read_long.ensures, c.if-at-read_long.false))
    (c.requires.head.earlier c.requires.form (c.args.at - 1)
    (omega (arith, c.read_long.ensures, c.if-at-read_long.false, c.if-at-eq0.false))))
