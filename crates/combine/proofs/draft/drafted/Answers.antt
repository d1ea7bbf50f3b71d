use Rattle.std.proofs.lemmas.Result.{err_from_is_err_and}
use Rattle.combine.proofs.draft.drafted.Goals as goal

pub returns-in_err-bundle : goal.returns-in_err-bundle
returns-in_err-bundle c =
    let p = err_from_is_err_and c.from_residual-in_err-bundle.result c.from_residual-in_err-bundle.ensures.1 in
    rw (p.1, p.2) (c.in_err-bundle.ensures c.args.profiles.now)

pub returns-in_err-before : goal.returns-in_err-before
returns-in_err-before c =
    let p = err_from_is_err_and c.from_residual-in_err-before.result c.from_residual-in_err-before.ensures.1 in
    rw (p.1, p.2) (c.in_err-before.ensures c.args.profiles.now)

pub returns-in_err-bundle-2 : goal.returns-in_err-bundle-2
returns-in_err-bundle-2 c =
    let p = err_from_is_err_and c.from_residual-in_err-bundle-2.result c.from_residual-in_err-bundle-2.ensures.1 in
    rw (p.1, p.2) (c.in_err-bundle-2.ensures c.args.profiles.now)
