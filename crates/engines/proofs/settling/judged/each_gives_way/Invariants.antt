use Rattle.std.proofs.Common.{◌≡◌, ◌<◌, ℕ, Some}
use Rattle.std.specs.Prelude.{slice_get}
use Rattle.profile.specs.declared.rules.Rule.{Rule}
use Rattle.engines.specs.Settled.{GivesWay}
use Rattle.engines.proofs.settling.judged.each_gives_way.Given as goal

abbrev pub invariant-loop-i : goal.invariant-loop-i
invariant-loop-i l = (k : ℕ) (rule : Rule) → k < l.i → slice_get l.rules k ≡ Some rule → GivesWay l.choice l.rules l.kept k rule
