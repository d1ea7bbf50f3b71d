use Rattle.std.proofs.Common.{ap}
use Rattle.aside.proofs.AsideLaws.{judged_as, leads_of}
use Rattle.aside.proofs.judged.next_in.Goals as goal

pub returns-in-Refuting : goal.returns-in-Refuting
returns-in-Refuting c =
    leads_of c.args.family c.args.leave (judged_as c.args.evidence.now) c.in-Refuting.found (ap judged_as c.in-Refuting.is)
    c.aside_for.result c.aside_for.ensures.may c.aside_for.ensures.is_of
