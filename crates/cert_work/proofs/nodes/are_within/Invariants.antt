use Rattle.std.proofs.Common.{ℕ, ◌+◌, ◌≡◌}
use Rattle.cert_form.specs.Views.{nodes_of}
use Rattle.cert_work.specs.Work.{IsWorkOf, most_work}
use Rattle.cert_work.proofs.nodes.are_within.Given as goal

abbrev pub invariant-loop-i : goal.invariant-loop-i
invariant-loop-i l = (w : ℕ) × IsWorkOf l.rules (nodes_of l.view) l.i w × (l.left + w ≡ most_work)
