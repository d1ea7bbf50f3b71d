-- What is told, and what is to be told of the entries that are left, is all.
use Rattle.std.proofs.Common.{◌≡◌, ◌++◌, drop}
use Rattle.std.specs.Prelude.{string_bytes}
use Rattle.show.specs.Read.{entries_text}
use Rattle.show.proofs.entries.put_entries.Given as goal

abbrev pub invariant-loop-entry : goal.invariant-loop-entry
invariant-loop-entry l =
    string_bytes l.text ++ entries_text l.rules l.entry l.start (drop l.entry l.ends)
    ≡ string_bytes l.fn.text ++ entries_text l.rules 0 0 l.ends
