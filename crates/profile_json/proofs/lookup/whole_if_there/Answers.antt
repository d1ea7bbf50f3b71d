use Rattle.std.proofs.lemmas.Result.{err_from_is_err_and}
use Rattle.serde_json.specs.View.{view}
use Rattle.profile_json.specs.Lookup.{whole}
use Rattle.profile_json.proofs.reading.Looking.{there_found, there_not, there_none}
use Rattle.profile_json.proofs.lookup.whole_if_there.Goals as goal

pub returns-in_ok-whole_of-in-Some : goal.returns-in_ok-whole_of-in-Some
returns-in_ok-whole_of-in-Some c =
    there_found whole c.in_ok-whole_of-in-Some.field-0 (view c.in-Some.found.now) _ c.in-Some.ensures c.in_ok-whole_of-in-Some.ensures

pub returns-in_err-whole_of-in-Some : goal.returns-in_err-whole_of-in-Some
returns-in_err-whole_of-in-Some c =
    let p = err_from_is_err_and c.from_residual.result c.from_residual.ensures.1 in
    rw (p.1, p.2) (there_not whole _ (view c.in-Some.found.now) _ c.in-Some.ensures c.in_err-whole_of-in-Some.ensures)

pub returns-in-None : goal.returns-in-None
returns-in-None c = there_none whole _ c.in-None.ensures
