use Rattle.compare.proofs.LintedLaws.{refused_hint}
use Rattle.compare.proofs.lint.hints.hint.Goals as goal

pub returns-in-Err : goal.returns-in-Err
returns-in-Err c =
    refused_hint c.args.document.now.native c.args.document.now.bytes c.in-Err.error c.refused.result c.in-Err.ensures.err c.refused.ensures.fault
    c.refused.ensures.past c.refused.ensures.stopped
