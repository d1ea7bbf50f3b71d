use Rattle.std.proofs.Common.{◌≡◌, take}
use Rattle.cert_form.specs.Writing.{all_known}
use Rattle.certify.proofs.paths.as_claims.Given as goal

abbrev pub invariant-loop-parent : goal.invariant-loop-parent
invariant-loop-parent l = l.claims.items ≡ all_known (take l.parent-index l.entries)
