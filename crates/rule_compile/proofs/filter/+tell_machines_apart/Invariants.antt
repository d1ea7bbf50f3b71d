use Rattle.std.specs.Prelude.{length}
use Rattle.rule_compile.proofs.filter.+tell_machines_apart.Given as goal

abbrev pub decreases-tell_machines_apart : goal.decreases-tell_machines_apart
decreases-tell_machines_apart l = length l.machines.now
