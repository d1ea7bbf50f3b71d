use Rattle.std.proofs.Common.{length}
use Rattle.std.specs.Prelude.{◌↔◌, Contains}
use Rattle.cert_form.specs.Views.{mets_from, says}
use Rattle.cert_check.proofs.claims.mets.says_met.Given as goal

abbrev pub invariant-loop-place : goal.invariant-loop-place
invariant-loop-place l = Contains (mets_from l.node l.at) (l.rule, l.own) ↔ Contains (says l.node).met (l.rule, l.own)

abbrev pub decreases-loop-place : goal.decreases-loop-place
decreases-loop-place l = length (mets_from l.node l.at)
