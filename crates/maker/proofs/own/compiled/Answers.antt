use Rattle.maker.proofs.PlainLaws.{made}
use Rattle.maker.proofs.own.compiled.Goals as goal

pub returns-clause-made : goal.returns-clause-made
returns-clause-made c =
    let done = c.into_filter.ensures in
    made c.args.profile.now c.args.planned.insns.items c.requires c.into_filter.result done.too_long done.read done.program
