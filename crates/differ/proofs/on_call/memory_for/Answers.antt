use Rattle.std.proofs.Common.{sym, ◌∙◌}
use Rattle.differ.proofs.on_call.memory_for.Goals as goal

pub returns : goal.returns
returns c = λ limited. c.in_ok-limited.ensures (sym c.empty_memory.ensures ∙ limited)
