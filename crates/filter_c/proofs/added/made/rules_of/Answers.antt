use Rattle.std.proofs.lemmas.Option.{slice_get-get_or}
use Rattle.filter_c.proofs.added.made.rules_of.Goals as goal

pub returns-in_default-clause-err : goal.returns-in_default-clause-err
returns-in_default-clause-err c = λ native machines.
    (_, slice_get-get_or c.args.given.now c.loop-place.place _ c.loop-place-test.true, c.in_default.ensures.none)
