use Rattle.std.proofs.Common.{ap}
use Rattle.std.specs.Map.{lookup}
use Rattle.processes.specs.Views.{same_text}
use Rattle.lifecycle.specs.Listed.{listed}
use Rattle.lifecycle.specs.Places.{listed_by}
use Rattle.lifecycle.proofs.register.Register.new.Goals as goal

pub returns : goal.returns
unfolding listed
returns c = ap (listed_by (λ q. lookup (same_text q) c.new.result.entries)) c.new-2.ensures.items
