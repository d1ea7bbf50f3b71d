use Rattle.std.proofs.Common.{◌≡◌, drop}
use Rattle.processes.specs.inner.Numbers.{call_at}
use Rattle.processes.proofs.calls.find_call.Given as goal

abbrev pub invariant-loop-entry : goal.invariant-loop-entry
invariant-loop-entry l = call_at (drop l.entry-index l.numbers) l.number ≡ call_at l.numbers l.number
