use Rattle.maker.proofs.ExportLaws.{is_checked_if_yes}
use Rattle.maker.proofs.checked_bundle.answer.Goals as goal

pub returns-clause-ok : goal.returns-clause-ok
returns-clause-ok c = λ native bundle is.
    let done = c.check.ensures in
    is_checked_if_yes native bundle c.args.profile.now c.args.filter.now c.args.certificate.now c.check.result is c.are_spelled.ensures
    done.profile done.filter done.cert done.accepted done.right done.kept
