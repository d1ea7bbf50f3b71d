use Rattle.std.proofs.Common.{◌≡◌, ◌++◌, map, take}
use Rattle.compare.specs.inner.Parts.{calls_of}
use Rattle.compare.proofs.behind_runc.stub.splitting.add_calls.Given as goal

abbrev pub invariant-loop-numbers : goal.invariant-loop-numbers
invariant-loop-numbers l = l.calls.items ≡ l.initial.calls.items ++ map (calls_of l.token) (take l.numbers-index l.fn.numbers)
