use Rattle.std.proofs.Common.{◌==◌}
use Rattle.std.proofs.lemmas.Bool.{eqb-false, not-true}
use Rattle.call_record.specs.Record.{words}
use Rattle.compare.proofs.SidesLaws.{difference_is}
use Rattle.compare.proofs.search.difference_of.Goals as goal

pub returns-clause-is : goal.returns-clause-is
returns-clause-is c =
    let f = c.args.found.now in
    let on = c.difference_on.ensures in
    difference_is c.args.family c.args.first.now c.args.second.now c.difference_on.result (words f.call) f.first f.second on.record_is on.is_record
    on.pinned on.first_is on.second_is c.requires.says_first c.requires.says_second
    (eqb-false f.first f.second (not-true (f.first == f.second) c.requires.unlike))
