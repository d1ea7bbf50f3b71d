-- The bytes so far have come.
use Rattle.std.proofs.Common.{ℕ, List, ◌++◌, take}
use Rattle.strace_logs.specs.Taken.{HasCome}
use Rattle.strace_logs.proofs.reading.take_bytes.Given as goal

abbrev pub invariant-loop-byte : goal.invariant-loop-byte
invariant-loop-byte l =
    (before : List (List ℕ)) (text : List ℕ) → HasCome l.native before text l.fn.progress.part.items l.fn.calls.seen.items
    → HasCome l.native before (text ++ take l.byte-index l.bytes) l.progress.part.items l.calls.seen.items
