-- What the source has given has come.
use Rattle.std.proofs.Common.{◌≡◌, ℕ, List, []}
use Rattle.std.specs.Io.KnownBytes.{Consumes}
use Rattle.strace_logs.specs.Taken.{AreTaken, HasCome}
use Rattle.strace_logs.proofs.reading.take_all.Given as goal

abbrev pub invariant-part : goal.invariant-part
invariant-part g l =
    (before : List (List ℕ)) → l.fn.progress.part.items ≡ [] → AreTaken l.native before l.fn.calls.seen.items
    → (text : List ℕ) × Consumes (g.I.Source.left l.fn.source) (g.I.Source.left l.source) text
    × HasCome l.native before text l.progress.part.items l.calls.seen.items

abbrev pub decreases-part : goal.decreases-part
decreases-part g l = g.I.Source.calls l.source
