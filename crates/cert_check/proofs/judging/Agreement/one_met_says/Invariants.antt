use Rattle.std.proofs.Common.{length}
use Rattle.cert_form.specs.Views.{mets_from}
use Rattle.cert_check.proofs.judging.Agreement.one_met_says.Given as goal

abbrev pub decreases-loop-met : goal.decreases-loop-met
decreases-loop-met g l = length (mets_from l.node l.at)
