-- The logs so far.
use Rattle.std.proofs.Common.{◌≡◌, map, take}
use Rattle.std.specs.List.{zip}
use Rattle.strace_logs.specs.Logged.{parts_of}
use Rattle.cli.proofs.logs.logs_of.Given as goal

abbrev pub invariant-loop-place : goal.invariant-loop-place
invariant-loop-place l =
    parts_of l.logs.items ≡ zip (map (λ n. n.now) (take l.place l.names)) (map (λ t. t.items) (take l.place l.texts))
