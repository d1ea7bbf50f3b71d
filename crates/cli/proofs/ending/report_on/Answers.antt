use Rattle.std.proofs.Common.{inr}
use Rattle.cli.proofs.ending.report_on.Goals as goal

pub returns-in-Usage-clause-lines : goal.returns-in-Usage-clause-lines
returns-in-Usage-clause-lines g c =
    record { between = c.report-status.new.err; line = c.report-status.ensures.line; more = inr (c.in-Usage.is, c.advise.ensures) }
