use Rattle.std.proofs.Common.{◌≡◌, vec_len}
use Rattle.cli.proofs.run.rooms_of.Given as goal

abbrev pub invariant-loop : goal.invariant-loop
invariant-loop l = vec_len l.rooms ≡ l.counter
