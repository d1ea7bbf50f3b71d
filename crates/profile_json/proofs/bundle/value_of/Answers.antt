use Rattle.std.proofs.Common.{rules, refl}
use Rattle.profile_json.specs.Breaks.{no_value}
use Rattle.profile_json.proofs.bundle.value_of.Goals as goal

pub returns-else-is_memory-clause-err : goal.returns-else-is_memory-clause-err
returns-else-is_memory-clause-err c = no_value (c.in-Err.ensures.err (search rules))

pub returns-else-is_memory-clause-at : goal.returns-else-is_memory-clause-at
returns-else-is_memory-clause-at c = (c.in-Err.ensures.err (search rules), refl)
