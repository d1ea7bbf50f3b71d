use Rattle.std.proofs.Common.{[], ◌∷◌, sym, ◌∙◌}
use Rattle.cert_form.proofs.ReadLaws.{none_at_0}
use Rattle.cert_form.specs.Reading.{entries_of}
use Rattle.cert_form.proofs.NumberLaws.{but_first, but_none}
use Rattle.cert_form.proofs.chain.after.Goals as goal

pub returns-in-Some-clause-last : goal.returns-in-Some-clause-last
returns-in-Some-clause-last c = (c.in-Some.field-0-0 ∷ [], sym c.in-Some.ensures.more)

pub returns-in-None-clause-last : goal.returns-in-None-clause-last
returns-in-None-clause-last c = ([], none_at_0 c.args.bytes.now ∙ sym c.in-None.ensures.more)

pub returns-in-Some-clause-others : goal.returns-in-Some-clause-others
returns-in-Some-clause-others c =
    but_first (entries_of c.args.bytes.now) c.args.at c.in-Some.next c.in-Some.ensures.numbers c.in-Some.ensures.earlier

pub returns-in-None-clause-others : goal.returns-in-None-clause-others
returns-in-None-clause-others c = but_none (entries_of c.args.bytes.now) c.args.at c.in-None.ensures.numbers
